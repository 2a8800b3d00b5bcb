-- A program that gives for every input what a function says: its start, a read, a write, its end.
use Rattle.std.proofs.Common.{◌≡◌, ℕ, Bool, true, false, List, [], ◌∷◌, ◌++◌, sym, ap, ◌∙◌, true≢false, append_assoc, append-nil}
use Rattle.console.specs.declared.Input.{Input}
use Rattle.console.specs.declared.Output.{Output}
use Rattle.console.specs.History.{Read, bytes_of, Write, handed_over, Told}
use Rattle.console.specs.Streams.{Follows, Streams}
use Rattle.console.proofs.Traces.{bytes-more, handed_more}

module _ {of left : List ℕ → List ℕ} where
  -- nothing was read or written: all is left
  pub follows_begins : ((input : List ℕ) → left input ≡ of input) → Follows of left false [] []
  unfolding bytes_of handed_over
  follows_begins all = record { says = λ more last. sym (all more) }

  module _ {ended : Bool} {rs : List Read} {ws : List Write} (f : Follows of left ended rs ws) (next : List ℕ → List ℕ) where
    -- one read more, before the end
    pub follows_read : ended ≡ false → (r : Read) → ((more : List ℕ) → left (r.bytes ++ more) ≡ next more) → {now : Bool}
        → Follows of next now (rs ++ (r ∷ [])) ws
    follows_read on r e = record {
      says = λ more last.
          ap (λ l. of (l ++ more)) (bytes-more rs r) ∙ ap of (append_assoc (bytes_of rs) r.bytes more)
          ∙ f.says (r.bytes ++ more) (λ h. absurd (true≢false (sym h ∙ on))) ∙ ap (handed_over ws ++◌) (e more);
    }

    -- one write more
    pub follows_wrote : (w : Write) → ((more : List ℕ) → (ended ≡ true → more ≡ []) → left more ≡ w.bytes ++ next more)
        → Follows of next ended rs (ws ++ (w ∷ []))
    follows_wrote w e = record {
      says = λ more last.
          f.says more last ∙ ap (handed_over ws ++◌) (e more last) ∙ sym (append_assoc (handed_over ws) w.bytes (next more))
          ∙ ap (◌++ next more) (sym (handed_more ws w));
    }

  -- the program is over, and nothing is left where it came to its end
  pub streams : {i : Input} {o : Output} {ended unread failed : Bool} {rs : List Read} {ws : List Write}
      → Told i o ended unread failed rs ws → Follows of left ended rs ws → {Whole : Type 0}
      → (Whole → (more : List ℕ) → (ended ≡ true → more ≡ []) → left more ≡ []) → Streams of i o ended unread failed Whole rs ws
  streams {ws = ws} t f none = record {
    told = t;
    all = λ whole more last. sym (f.says more last ∙ ap (handed_over ws ++◌) (none whole more last) ∙ append-nil (handed_over ws));
    begins = λ more last. (left more, f.says more last);
  }
