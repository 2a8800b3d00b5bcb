-- A text in parts: words that hold neither a space nor a line end are the parts of their line, and lines those of their text.
use mathlib.Core.Path.{◌≡◌, refl, sym, ap, ◌∙◌}
use mathlib.Core.Bool.{Bool, true, false, cond}
use mathlib.Core.List.{List, [], ◌∷◌, ◌++◌, append_assoc}
use Prim.Native.Nat.{ℕ, zero, suc, ◌-◌, ◌≤◌, ◌<◌}
use native.Mathlib.Omega.{arith}
use borrow.Author.Tests.{eq-eqb}
use lib.Dec.{eqb}
use lib.ListN.{length, get_or}
use Rattle.rational.specs.Sum.{All, none, more}
use Rattle.rational.proofs.Sum.{All-++}
use Rattle.model.specs.Text as Text
use Rattle.model.specs.Text.{ascii, following}
use Rattle.model.specs.Reading.{Line, line_end, space, onto, parts, line, lines_of, lines, line_at, line_ends}

-- a word in which the byte doesn't occur
abbrev pub Without : ℕ → List ℕ → Type 0
Without mark w = All (λ b. eqb b mark ≡ false) w

-- ---- parts of a text
module _ (mark : ℕ) where
  -- the rest of the bytes of a part
  part_cut : (rest : List ℕ) {w : List ℕ} → Without mark w → parts mark (w ++ (mark ∷ rest)) ≡ w ∷ parts mark rest
  unfolding parts onto
  part_cut rest none = rw (eq-eqb mark mark refl)
  part_cut rest (more {a = b} {l = w} h t) =
      ap (λ x. cond x ([] ∷ parts mark (w ++ (mark ∷ rest))) (onto b (parts mark (w ++ (mark ∷ rest))))) h ∙ ap (onto b) (part_cut rest t)

  part_alone : {w : List ℕ} → Without mark w → parts mark w ≡ w ∷ []
  unfolding parts onto
  part_alone none = refl
  part_alone (more {a = b} {l = w} h t) = ap (λ x. cond x ([] ∷ parts mark w) (onto b (parts mark w))) h ∙ ap (onto b) (part_alone t)

  -- there is a first part
  some_part : (text : List ℕ) → (w : List ℕ) × (ws : List (List ℕ)) × (parts mark text ≡ w ∷ ws)
  unfolding parts onto
  some_part [] = ([], [], refl)
  some_part (b ∷ bs) = go (eqb b mark) (parts mark bs)
    where
      go : (x : Bool) (ps : List (List ℕ)) → (w : List ℕ) × (ws : List (List ℕ)) × (cond x ([] ∷ ps) (onto b ps) ≡ w ∷ ws)
      go true ps = ([], ps, refl)
      go false [] = (b ∷ [], [], refl)
      go false (p ∷ ps) = (b ∷ p, ps, refl)

-- ---- a line by its words
-- a word of a line
pub record Word (w : List ℕ) : Type 0 where
  pub no_space : Without space w
  pub no_end : Without line_end w

-- words with spaces between them
unfoldable pub joined : List ℕ → List (List ℕ) → List ℕ
joined w [] = w
joined w (v ∷ vs) = w ++ (space ∷ joined v vs)

-- a printed line is its words and a line end
line-joined : (w : List ℕ) (ws : List (List ℕ)) (rest : List ℕ) → Text.line w ws ++ rest ≡ joined w ws ++ (line_end ∷ rest)
unfolding joined following ascii
line-joined w [] rest = append_assoc w _ rest
line-joined w (v ∷ vs) rest =
    append_assoc w _ rest ∙ ap (λ t. w ++ (space ∷ t)) (line-joined v vs rest) ∙ sym (append_assoc w (space ∷ joined v vs) _)

joined-ends : {w : List ℕ} {ws : List (List ℕ)} → Word w → All Word ws → Without line_end (joined w ws)
unfolding joined
joined-ends h none = h.no_end
joined-ends h (more k t) = All-++ h.no_end (more refl (joined-ends k t))

joined_words : {w : List ℕ} {ws : List (List ℕ)} → Word w → All Word ws → parts space (joined w ws) ≡ w ∷ ws
unfolding joined
joined_words h none = part_alone space h.no_space
joined_words {w} h (more k t) = part_cut space _ h.no_space ∙ ap (w ∷◌) (joined_words k t)

-- The first part of a text that begins with a line is that line.
pub first-line : {w : List ℕ} {ws : List (List ℕ)} (rest : List ℕ) → Word w → All Word ws
    → parts line_end (Text.line w ws ++ rest) ≡ joined w ws ∷ parts line_end rest
first-line {w} {ws} rest h t = ap (parts line_end) (line-joined w ws rest) ∙ part_cut line_end rest (joined-ends h t)

-- The line of some words is read as those words.
pub reads_line : {w : List ℕ} {ws : List (List ℕ)} (rest : List ℕ) → Word w → All Word ws
    → lines (Text.line w ws ++ rest) ≡ line (w ∷ ws) ∷ lines rest
unfolding lines lines_of
reads_line {w} {ws} rest h t =
    let q = some_part line_end rest in
    ap lines_of (first-line rest h t) ∙ go (parts line_end rest) q.0 q.1 q.2
  where
    go : (ps : List (List ℕ)) (v : List ℕ) (vs : List (List ℕ)) → ps ≡ v ∷ vs → lines_of (joined w ws ∷ ps) ≡ line (w ∷ ws) ∷ lines_of ps
    go ps v vs e =
        ap (λ x. lines_of (joined w ws ∷ x)) e ∙ ap (λ x. line x ∷ lines_of (v ∷ vs)) (joined_words h t)
        ∙ ap (λ x. line (w ∷ ws) ∷ lines_of x) (sym e)

-- Nothing is read as no line.
pub reads_nothing : lines [] ≡ []
unfolding lines lines_of parts
reads_nothing = refl

-- ---- how a text begins
module _ (mark : ℕ) where
  -- a part that ends stays as it is, whatever follows
  pub part_stays : (text later : List ℕ) (m : ℕ) → m < length (parts mark text) - 1
      → get_or (parts mark (text ++ later)) m [] ≡ get_or (parts mark text) m []
  unfolding parts onto
  part_stays [] later m h = absurd (omega arith)
  part_stays (b ∷ text) later m h =
      let p = some_part mark text in let q = some_part mark (text ++ later) in
      go (eqb b mark) (parts mark text) (parts mark (text ++ later)) p.2 q.2 (part_stays text later) m h
    where
      go : (x : Bool) (ps qs : List (List ℕ)) {v w : List ℕ} {vs ws : List (List ℕ)} → ps ≡ v ∷ vs → qs ≡ w ∷ ws
          → ((m : ℕ) → m < length ps - 1 → get_or qs m [] ≡ get_or ps m [])
          → (m : ℕ) → m < length (cond x ([] ∷ ps) (onto b ps)) - 1
          → get_or (cond x ([] ∷ qs) (onto b qs)) m [] ≡ get_or (cond x ([] ∷ ps) (onto b ps)) m []
      go true ps qs d e h zero l = refl
      go true ps qs d e h (suc m) l = h m (omega arith)
      go false [] qs d e h m l = absurd (omega arith)
      go false (v ∷ vs) [] d e h m l = absurd (omega (arith, ap length e))
      go false (v ∷ vs) (w ∷ ws) d e h zero l = ap (b ∷◌) (h 0 l)
      go false (v ∷ vs) (w ∷ ws) d e h (suc m) l = h (suc m) l

  part_count : (text later : List ℕ) → length (parts mark text) ≤ length (parts mark (text ++ later))
  unfolding parts onto
  part_count [] later = let q = some_part mark later in omega (arith, ap length q.2)
  part_count (b ∷ text) later =
      let q = some_part mark (text ++ later) in
      go (eqb b mark) (parts mark text) (parts mark (text ++ later)) q.2 (part_count text later)
    where
      go : (x : Bool) (ps qs : List (List ℕ)) {w : List ℕ} {ws : List (List ℕ)} → qs ≡ w ∷ ws → length ps ≤ length qs
          → length (cond x ([] ∷ ps) (onto b ps)) ≤ length (cond x ([] ∷ qs) (onto b qs))
      go true ps qs e l = omega arith
      go false [] [] e l = omega arith
      go false [] (w ∷ ws) e l = omega arith
      go false (v ∷ vs) [] e l = absurd (omega arith)
      go false (v ∷ vs) (w ∷ ws) e l = l

-- a part that ends is read as a line
line_is : (ps : List (List ℕ)) (m : ℕ) → m < length ps - 1 → get_or (lines_of ps) m Line.strange ≡ line (parts space (get_or ps m []))
unfolding lines_of
line_is [] m h = absurd (omega arith)
line_is (w ∷ []) m h = absurd (omega arith)
line_is (w ∷ v ∷ ps) zero h = refl
line_is (w ∷ v ∷ ps) (suc m) h = line_is (v ∷ ps) m (omega arith)

-- A whole line stays as it is, whatever follows.
pub line_stays : (text later : List ℕ) (m : ℕ) → m < line_ends text → line_at (text ++ later) m ≡ line_at text m
unfolding lines
line_stays text later m h =
    line_is (parts line_end (text ++ later)) m (omega (arith, part_count line_end text later))
    ∙ ap (λ w. line (parts space w)) (part_stays line_end text later m h) ∙ sym (line_is (parts line_end text) m h)
