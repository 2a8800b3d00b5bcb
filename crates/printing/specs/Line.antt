-- The line of an answer, which is that of the definitions where the answer is the record of theirs.
use Rattle.std.specs.Prelude.{◌≡◌, refl, List, [], ◌∷◌, true, false, ℕ, ◌≤◌, length, ℤ, pos, ⊤}
use Rattle.std.proofs.Common.{sym, ap, ap₂, ◌∙◌, subst, arith}
use Rattle.whole.specs.Tab.{tab, tab_cong, get_d_tab, tab_get_d}
use Rattle.model.specs.Set.{at}
use Rattle.model.specs.Field as Outcomes
use Rattle.model.specs.Field.{inside, verdict, refused, skipped}
use Rattle.model.specs.Run as Model
use Rattle.model.specs.Run.{tag}
use Rattle.model.specs.Text.{box_line, verdict_line, refusal_line, outcome_line, line_of}
use Rattle.text.specs.Appended.{Appended, none_put, named}
use Rattle.text.specs.Pieces.{firsts}
use Rattle.text.specs.Lines.{longest_line}
use Rattle.zonotope.specs.Answer.{number_of}
pub use Rattle.zonotope.specs.Answer.{Numbered}
use Rattle.states.specs.Answer.{outcome_of, box_of, parts, answer_of}
use Rattle.states.specs.declared.Outcome.{Outcome}
use Rattle.states.specs.declared.Outcome.TheVariants.{Inside, Safe, Unknown, Refused, Skipped, Unfit}
use Rattle.states.specs.declared.Answer.{Answer}

-- the line of each case; a skipped field has none, and neither has a call that is refused
unfoldable pub case_line : ℕ → Answer → Outcome → List ℕ
case_line tag a Inside = box_line a.field tag (firsts a.sides a.low) (firsts a.sides a.high)
case_line tag a Safe = verdict_line a.field tag true
case_line tag a Unknown = verdict_line a.field tag false
case_line tag a (Refused r) = refusal_line a.field (number_of r.cause) r.place
case_line tag a Skipped = []
case_line tag a (Unfit n) = []

-- the line of an answer, given the field's tag
abbrev pub answer_line : ℕ → Answer → List ℕ
answer_line tag a = case_line tag a a.outcome

-- a refusal's number is that of a cause
abbrev pub HasCause : Outcomes.Outcome → Type 0
HasCause (inside b) = ⊤
HasCause (verdict b) = ⊤
HasCause (refused n place) = Numbered n
HasCause skipped = ⊤

-- a box has as many low as high ends, and at most six
pub record Brief (o : Outcomes.Outcome) : Type 0 where
  pub few : length (box_of o).lows ≤ 6
  pub same : length (box_of o).highs ≡ length (box_of o).lows
  pub numbered : HasCause o

-- ---- laws
-- a line that was written by the case of an answer
pub line_put : {most : ℕ} {x y : List ℕ} {i j : ℕ} (tag : ℕ) (a : Answer) {o : Outcome} → a.outcome ≡ o
    → Appended most x y i j (case_line tag a o) → Appended most x y i j (answer_line tag a)
line_put {most} {x} {y} {i} {j} tag a e p = subst (λ o. Appended most x y i j (case_line tag a o)) (sym e) p

-- an answer without a line
pub nothing_put : (x : List ℕ) (i : ℕ) → Appended longest_line x x i i []
nothing_put x i = named (omega arith) refl (none_put x i)

-- at most six ends, read back from their six places
firsts_of-six : (n : ℕ) (l : List ℤ) → length l ≡ n → n ≤ 6 → firsts n (tab 6 (at l)) ≡ l
firsts_of-six n l e h =
    tab_cong n (at (tab 6 (at l))) (at l) (λ i k. get_d_tab 6 (at l) (pos 0) i (omega arith)) ∙ tab_get_d n l (pos 0) e

-- the line of a record of an answer is that of the answer, where its box has ends for at most six coordinates
pub record_line : (tag : ℕ) (a : Model.Answer) (bytes : ℕ) → Brief a.outcome → answer_line tag (answer_of a bytes) ≡ line_of tag a
unfolding case_line outcome_line answer_of
record_line tag a bytes h = go a.outcome h
  where
    go : (o : Outcomes.Outcome) → Brief o
        → case_line tag (parts a.field bytes (outcome_of o) (box_of o)) (outcome_of o) ≡ outcome_line a.field tag o
    go (inside b) h = ap₂ (box_line a.field tag) (firsts_of-six _ b.lows refl h.few) (firsts_of-six _ b.highs h.same h.few)
    go (verdict true) h = refl
    go (verdict false) h = refl
    go (refused n place) h = ap (λ m. refusal_line a.field m place) h.numbered
    go skipped h = refl

-- a field without bytes has tag 0
pub no_tag : (f : List ℕ) → length f ≡ 0 → 0 ≡ tag f
no_tag [] e = refl
no_tag (t ∷ f) e = absurd (omega arith)
