-- One read or one write more, and what a program says then.
use Rattle.std.proofs.Common.{◌≡◌, ℕ, ◌<◌, Bool, true, false, not, ◌&&◌, ◌||◌, eqb, List, [], ◌∷◌, ◌++◌, length, take, sym, refl, ap, ◌∙◌, subst, ap₂, true≢false, append_assoc, append-nil, eqb-true}
use mathlib.Core.Bool.{or_assoc, or-false}
use borrow.Author.Tests.{not-true}
use Rattle.console.specs.declared.Input.{Input}
use Rattle.console.specs.declared.Output.{Output}
use Rattle.console.specs.declared.Filled.{Filled}
use Rattle.console.specs.Trace.{without_input, took, without_output, wrote, FilledFrom}
use Rattle.console.specs.History.{Read, took_all, bytes_of, some_read_failed, EndRead, ReadFailed, ToldReads}
use Rattle.console.specs.History.{Write, wrote_all, handed_over, some_write_failed, WriteFailed, Told}

-- ---- a read
-- none yet
pub took_none : {i : Input} → took_all i [] ≡ i
unfolding took_all
took_none = refl

pub bytes_none : bytes_of [] ≡ []
unfolding bytes_of
bytes_none = refl

-- one more
pub took_more : (i : Input) (rs : List Read) (r : Read) → took_all i (rs ++ (r ∷ [])) ≡ took (took_all i rs) r.asked r.bytes r.failed
unfolding took_all
took_more i [] r = refl
took_more i (q ∷ rs) r = took_more (took i q.asked q.bytes q.failed) rs r

pub bytes-more : (rs : List Read) (r : Read) → bytes_of (rs ++ (r ∷ [])) ≡ bytes_of rs ++ r.bytes
unfolding bytes_of
bytes-more [] r = append-nil r.bytes
bytes-more (q ∷ rs) r = ap (q.bytes ++◌) (bytes-more rs r) ∙ sym (append_assoc q.bytes (bytes_of rs) r.bytes)

reads_failed : (rs : List Read) (r : Read) → some_read_failed (rs ++ (r ∷ [])) ≡ some_read_failed rs || r.failed
unfolding some_read_failed
reads_failed [] r = or-false r.failed
reads_failed (q ∷ rs) r = ap (q.failed ||◌) (reads_failed rs r) ∙ sym (or_assoc q.failed (some_read_failed rs) r.failed)

-- one that brought no byte into a buffer that has room, and did not fail
met_end : (rs : List Read) (buffer : List ℕ) (count : ℕ) (failed : Bool) → 0 < length buffer → eqb count 0 ≡ true → failed ≡ false
    → EndRead (rs ++ (record { asked = length buffer; bytes = take count buffer; failed = failed } ∷ []))
met_end rs buffer count failed some e g = record {
  before = rs;
  asked = length buffer;
  some = some;
  last = ap₂ (λ n b. rs ++ (record { asked = length buffer; bytes = take n buffer; failed = b } ∷ [])) (eqb-true count 0 e) g;
}

-- one that failed
met_failure : (rs : List Read) (buffer : List ℕ) (count : ℕ) (failed : Bool) → count ≡ 0 → failed ≡ true
    → ReadFailed (rs ++ (record { asked = length buffer; bytes = take count buffer; failed = failed } ∷ []))
met_failure rs buffer count failed e g = record {
  before = rs;
  asked = length buffer;
  last = ap₂ (λ n b. rs ++ (record { asked = length buffer; bytes = take n buffer; failed = b } ∷ [])) e g;
}

-- ---- a write
wrote_more : (o : Output) (ws : List Write) (w : Write) → wrote_all o (ws ++ (w ∷ [])) ≡ wrote (wrote_all o ws) w.bytes w.whole
unfolding wrote_all
wrote_more o [] w = refl
wrote_more o (v ∷ ws) w = wrote_more (wrote o v.bytes v.whole) ws w

pub handed_more : (ws : List Write) (w : Write) → handed_over (ws ++ (w ∷ [])) ≡ handed_over ws ++ w.bytes
unfolding handed_over
handed_more [] w = append-nil w.bytes
handed_more (v ∷ ws) w = ap (v.bytes ++◌) (handed_more ws w) ∙ sym (append_assoc v.bytes (handed_over ws) w.bytes)

writes_failed : (ws : List Write) (w : Write) → some_write_failed (ws ++ (w ∷ [])) ≡ some_write_failed ws || not w.whole
unfolding some_write_failed
writes_failed [] w = or-false (not w.whole)
writes_failed (v ∷ ws) w =
    ap (not v.whole ||◌) (writes_failed ws w) ∙ sym (or_assoc (not v.whole) (some_write_failed ws) (not w.whole))

-- one that didn't go through
not-whole : (ws : List Write) (bytes : List ℕ) (whole : Bool) → not whole ≡ true
    → WriteFailed (ws ++ (record { bytes = bytes; whole = whole } ∷ []))
not-whole ws bytes whole e = record {
  before = ws;
  bytes = bytes;
  last = ap (λ b. ws ++ (record { bytes = bytes; whole = b } ∷ [])) (not-true whole e);
}

-- ---- what a program says of its reads of an input
pub told_no_reads : {first : Input} → ToldReads first first false false []
unfolding took_all some_read_failed
told_no_reads = record {
  input_is = refl;
  unread_is = refl;
  read_failed = λ e. absurd (true≢false (sym e));
  end_read = λ e. absurd (true≢false (sym e));
}

-- a read into a buffer that has room
pub reads_more : {first i : Input} {ended unread : Bool} {rs : List Read} → ToldReads first i ended unread rs → unread ≡ false
    → (B : List ℕ) (r : Filled) → FilledFrom i B r → 0 < length B
    → ToldReads first r.input (eqb r.count 0 && not r.failed) r.failed
    (rs ++ (record { asked = length B; bytes = take r.count B; failed = r.failed } ∷ []))
reads_more {first} {rs = rs} t well B r filled some = record {
  input_is = filled.next ∙ ap (λ j. took j (length B) (take r.count B) r.failed) t.input_is ∙ sym (took_more first rs this);
  unread_is = sym (reads_failed rs this ∙ ap (◌|| r.failed) (sym t.unread_is ∙ well));
  read_failed = λ e. met_failure rs B r.count r.failed (filled.none e) e;
  end_read = λ e. let h = both (eqb r.count 0) r.failed e in met_end rs B r.count r.failed some h.0 h.1;
}
  where
    this : Read
    this = record { asked = length B; bytes = take r.count B; failed = r.failed }

    both : (x y : Bool) → x && not y ≡ true → (x ≡ true) × (y ≡ false)
    both true false e = (refl, refl)
    both true true e = absurd (true≢false (sym e))
    both false y e = absurd (true≢false (sym e))

-- ---- and of its writes
pub told-nothing : Told without_input without_output false false false [] []
unfolding took_all wrote_all some_read_failed some_write_failed
told-nothing = record {
  input_is = refl;
  output_is = refl;
  unread_is = refl;
  failed_is = refl;
  read_failed = λ e. absurd (true≢false (sym e));
  write_failed = λ e. absurd (true≢false (sym e));
  end_read = λ e. absurd (true≢false (sym e));
}

module _ {i : Input} {o : Output} {ended unread failed : Bool} {rs : List Read} {ws : List Write}
    (t : Told i o ended unread failed rs ws) (well : unread ≡ false) where
  reads_told : ToldReads without_input i ended unread rs
  reads_told = record { input_is = t.input_is; unread_is = t.unread_is; read_failed = t.read_failed; end_read = t.end_read }

  -- a read into a buffer that has room
  pub told_read : (B : List ℕ) (r : Filled) → FilledFrom i B r → 0 < length B
      → Told r.input o (eqb r.count 0 && not r.failed) r.failed failed
      (rs ++ (record { asked = length B; bytes = take r.count B; failed = r.failed } ∷ [])) ws
  told_read B r filled some =
      let q = reads_more reads_told well B r filled some in
      record {
        input_is = q.input_is;
        output_is = t.output_is;
        unread_is = q.unread_is;
        failed_is = t.failed_is;
        read_failed = q.read_failed;
        write_failed = t.write_failed;
        end_read = q.end_read;
      }

  -- a write
  pub told_wrote : failed ≡ false → (bytes : List ℕ) (whole : Bool) {p : Output} → p ≡ wrote o bytes whole
      → Told i p ended false (not whole) rs (ws ++ (record { bytes = bytes; whole = whole } ∷ []))
  told_wrote went bytes whole sent = record {
    input_is = t.input_is;
    output_is = sent ∙ ap (λ q. wrote q bytes whole) t.output_is ∙ sym (wrote_more without_output ws this);
    unread_is = sym well ∙ t.unread_is;
    failed_is = sym (writes_failed ws this ∙ ap (◌|| not whole) (sym t.failed_is ∙ went));
    read_failed = λ e. absurd (true≢false (sym e));
    write_failed = not-whole ws bytes whole;
    end_read = t.end_read;
  }
    where
      this : Write
      this = record { bytes = bytes; whole = whole }
