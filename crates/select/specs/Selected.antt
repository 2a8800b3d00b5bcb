-- Which of n places are marked: those of the smallest elements until a limit is met, or those that pass a test; and what is left then.
use Rattle.std.specs.Prelude.{List, ◌∷◌, map, Bool, false, not, ◌≡◌, refl, ℕ, suc, ◌+◌, ◌-◌, ◌<◌, ◌≤◌, length}
use Rattle.std.proofs.Common.{map-id, sym, ap, ap₂, ◌∙◌, arith, add-one}
use Rattle.whole.specs.Tab.{tab, length-tab}
use Rattle.rational.specs.Sum.{All, none, more}
use Rattle.model.specs.Finish.{Core, Folded, those, fold_all, fold_until}
use Rattle.model.specs.Motion.{places}
use Rattle.model.proofs.WholeForms.{All-places}
use Rattle.model.proofs.Select.{bar, left, keep_above, folded_below, by_less, low_keeps, low-folds, high_keeps, high-folds, keeps_none}
use Rattle.model.proofs.Select.{folds_none}
use Rattle.model.proofs.Level.{level, Bar, share, level_none, level_in, level_out, until_at_once, until_few}
use Rattle.model.proofs.FirstBySize.{first_by_size, within_limit}
use Rattle.fold.specs.Chosen.{chosen, chosen_cong, those-tab, tab-places, folds-map}
use Rattle.select.specs.Bar.{size_at, Marked}
use Rattle.fold.specs.Marks.{at, unmarked}

-- ---- elements by their places: what is kept and folded depends on the sizes alone
module _ {A B : Type 0} (t : B → A) (f : A → ℕ) (g : B → ℕ) (T : ℕ) where
  keeps_map : (r : ℕ) {l : List B} → All (λ b. f (t b) ≡ g b) l → keep_above f T r (map t l) ≡ map t (keep_above g T r l)
  keeps_map r none = keeps_none f T r ∙ sym (ap (map t) (keeps_none g T r))
  keeps_map r (more {a = b} {l = l} e h) =
      by_less (g b) (bar T r)
      (λ (c : g b < bar T r). low_keeps f T r (t b) (map t l) (omega arith) ∙ keeps_map r h ∙ sym (ap (map t) (low_keeps g T r b l c)))
      (λ (c : bar T r ≤ g b).
      high_keeps f T r (t b) (map t l) (omega arith)
      ∙ ap (t b ∷◌) (ap (λ (x : ℕ). keep_above f T (left T r x) (map t l)) e ∙ keeps_map (left T r (g b)) h)
      ∙ sym (ap (map t) (high_keeps g T r b l c)))

  folded_map : (r : ℕ) {l : List B} → All (λ b. f (t b) ≡ g b) l → folded_below f T r (map t l) ≡ map t (folded_below g T r l)
  folded_map r none = folds_none f T r ∙ sym (ap (map t) (folds_none g T r))
  folded_map r (more {a = b} {l = l} e h) =
      by_less (g b) (bar T r)
      (λ (c : g b < bar T r).
      low-folds f T r (t b) (map t l) (omega arith) ∙ ap (t b ∷◌) (folded_map r h) ∙ sym (ap (map t) (low-folds g T r b l c)))
      (λ (c : bar T r ≤ g b).
      high-folds f T r (t b) (map t l) (omega arith)
      ∙ ap (λ (x : ℕ). folded_below f T (left T r x) (map t l)) e
      ∙ folded_map (left T r (g b)) h
      ∙ sym (ap (map t) (high-folds g T r b l c)))

  level-map : {l : List B} → All (λ b. f (t b) ≡ g b) l → level f T (map t l) ≡ level g T l
  level-map none = level_none f T ∙ sym (level_none g T)
  level-map (more {a = b} {l = l} e h) =
      by_less (g b) T
      (λ (c : g b < T). level_out f T (t b) (map t l) (omega arith) ∙ level-map h ∙ sym (level_out g T b l c))
      (λ (c : T ≤ g b). level_in f T (t b) (map t l) (omega arith) ∙ ap suc (level-map h) ∙ sym (level_in g T b l c))

-- ---- the places of the smallest of n, by their sizes f, are marked until `limit` are left
pub record Selected (f : ℕ → ℕ) (limit n : ℕ) (gone : List Bool) : Type 0 where
  pub height : ℕ
  pub bar_is : Bar f limit (places n) height
  pub keeps : keep_above f height (share f limit (places n) height) (places n) ≡ chosen (unmarked gone) n
  pub folds : folded_below f height (share f limit (places n) height) (places n) ≡ chosen (at gone) n

-- what is left where marked elements are folded
abbrev pub parted : {A : Type 0} → (A → Core → Core) → (ℕ → A) → ℕ → List Bool → Core → Folded A
parted fold t n gone k = record { core = fold_all (λ i. fold (t i)) (chosen (at gone) n) k; kept = map t (chosen (unmarked gone) n) }

-- folding the smallest until a limit is met folds the marked ones
pub until_parted : {A : Type 0} (f : A → ℕ) (fold : A → Core → Core) → ((a b : A) (k : Core) → fold a (fold b k) ≡ fold b (fold a k)) →
    (t : ℕ → A) (limit n : ℕ) (k : Core) {gone : List Bool} → Selected (λ i. f (t i)) limit n gone →
    fold_until f fold limit k (tab n t) ≡ parted fold t n gone k
until_parted {A} f fold swap t limit n k {gone} v =
    let g : ℕ → ℕ = λ i. f (t i) in
    let T = v.height in
    let same = All-places {P = λ i. f (t i) ≡ g i} n (λ i h. refl) in
    let above = level-map t f g (suc T) same in
    let r = share g limit (places n) T in
    let most = v.bar_is.most in
    let enough = v.bar_is.enough in
    let here = level-map t f g T same in
    let b : Bar f limit (map t (places n)) T = record { most = omega (arith, above, most); enough = omega (arith, here, enough) } in
    let sr : share f limit (map t (places n)) T ≡ r = ap (limit -◌) above in
    ap (fold_until f fold limit k) (tab-places n t)
    ∙ until_at_once f fold limit k (map t (places n)) swap b
    ∙ ap₂ (λ (c : Core) (l : List A). record { core = c; kept = l })
    (ap (λ (l : List A). fold_all fold l k)
    (ap (λ (x : ℕ). folded_below f T x (map t (places n))) sr ∙ folded_map t f g T r same ∙ ap (map t) v.folds)
    ∙ folds-map t fold (chosen (at gone) n) k)
    (ap (λ (x : ℕ). keep_above f T x (map t (places n))) sr ∙ keeps_map t f g T r same ∙ ap (map t) v.keeps)

-- where there are no more than the limit nothing is folded
pub few_left : {A : Type 0} (f : A → ℕ) (fold : A → Core → Core) (t : ℕ → A) (limit n : ℕ) (k : Core) → n ≤ limit →
    record { core = k; kept = tab n t } ≡ fold_until f fold limit k (tab n t)
few_left f fold t limit n k h = sym (until_few f fold limit k (tab n t) (omega (arith, length-tab n t)))

-- what is left is within the limit
pub left-within : {A : Type 0} (f : A → ℕ) (fold : A → Core → Core) → ((a b : A) (k : Core) → fold a (fold b k) ≡ fold b (fold a k)) →
    (limit : ℕ) (k : Core) (l : List A) (m : ℕ) (t : ℕ → A) {c : Core} →
    record { core = c; kept = tab m t } ≡ fold_until f fold limit k l → m ≤ limit
left-within f fold swap limit k l m t e =
    omega (arith, length-tab m t, ap (λ x. length x.kept) e, within_limit (first_by_size f fold swap limit k l))

-- those that pass a test are marked
pub those-parted : {A : Type 0} (p : A → Bool) (fold : A → Core → Core) (t : ℕ → A) (n : ℕ) (k : Core) (gone : List Bool) →
    ((i : ℕ) → i < n → at gone i ≡ p (t i)) →
    record { core = fold_all fold (those p (tab n t)) k; kept = those (λ a. not (p a)) (tab n t) } ≡ parted fold t n gone k
those-parted {A} p fold t n k gone h =
    ap₂ (λ (c : Core) (l : List A). record { core = c; kept = l })
    (ap (λ (l : List A). fold_all fold l k) (those-tab p n t ∙ ap (map t) (sym (chosen_cong (at gone) (λ i. p (t i)) n h)))
    ∙ folds-map t fold (chosen (at gone) n) k)
    (those-tab (λ a. not (p a)) n t
    ∙ ap (map t) (sym (chosen_cong (unmarked gone) (λ i. not (p (t i))) n (λ i l. ap not (h i l)))))

-- where none passes, none is folded
pub none_folded : {A : Type 0} (p : A → Bool) (fold : A → Core → Core) (k : Core) {l : List A} → All (λ a. p a ≡ false) l →
    fold_all fold (those p l) k ≡ k
unfolding those fold_all
none_folded p fold k none = refl
none_folded p fold k (more h t) = rw h (none_folded p fold k t)

-- the bar that was found in a list of the sizes
pub selected_by : (z : List ℕ) (f : ℕ → ℕ) (limit n T q : ℕ) (gone : List Bool) → ((k : ℕ) → k < n → size_at z k ≡ f k) →
    Bar (size_at z) limit (places n) T → q ≡ limit - level (size_at z) (T + 1) (places n) → Marked z T q n gone → Selected f limit n gone
selected_by z f limit n T q gone h b e v =
    let l = places n in
    let same = All-places {P = λ k. f k ≡ size_at z k} n (λ k g. sym (h k g)) in
    let most = b.most in
    let enough = b.enough in
    let id : map (λ k. k) l ≡ l = map-id l in
    let up : level f (suc T) l ≡ level (size_at z) (suc T) l =
    ap (level f (suc T)) (sym id) ∙ level-map (λ k. k) f (size_at z) (suc T) same in
    let here : level f T l ≡ level (size_at z) T l = ap (level f T) (sym id) ∙ level-map (λ k. k) f (size_at z) T same in
    let r : share f limit l T ≡ q = ap (limit -◌) (up ∙ ap (λ (x : ℕ). level (size_at z) x l) (sym (add-one T))) ∙ sym e in
    record {
      height = T;
      bar_is = record { most = omega (arith, up, most); enough = omega (arith, here, enough) };
      keeps =
          ap₂ (keep_above f T) r (sym id) ∙ keeps_map (λ k. k) f (size_at z) T q same ∙ map-id (keep_above (size_at z) T q l) ∙ v.keeps;
      folds =
          ap₂ (folded_below f T) r (sym id) ∙ folded_map (λ k. k) f (size_at z) T q same ∙ map-id (folded_below (size_at z) T q l) ∙ v.folds;
    }
