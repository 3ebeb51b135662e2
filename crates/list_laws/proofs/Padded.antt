-- Storing after what a padded array holds makes the padded array of the longer list: by where the stored element meets the padding. Its length, and room added to
-- it.
use mathlib.Core.Path.{◌≡◌, sym, ap, ◌∙◌}
use mathlib.Core.List.{List, [], ◌∷◌, ◌++◌, append-nil, append_assoc}
use Prim.Native.Nat.{ℕ, suc, ◌+◌, ◌-◌, ◌≤◌, ◌<◌}
use native.Mathlib.Omega.{arith}
use lib.ListN.{length, get_or, set, replicate, length-append, length-set, length-replicate, replicate-append-replicate, get_or-append}
use lib.Seq.{sets, append_snoc, set-append_seam, set-append_left}
use Rattle.definitions.specs.Lists.{padded}

module _ {A : Type 0} (n : ℕ) (x : A) where
  pub padded_one : (l : List A) (y : A) → length l < n → padded n x (l ++ (y ∷ [])) ≡ set (padded n x l) (length l) y
  padded_one l y h =
      let k : ℕ = n - suc (length l) in
      let e : n - length l ≡ suc k = omega arith in
      let f : n - length (l ++ (y ∷ [])) ≡ k = omega (arith, length-append l (y ∷ [])) in
      rw (f, e) (append_snoc l y (replicate k x) ∙ sym (set-append_seam l x (replicate k x) y))

  pub padded_more : (b l : List A) → length l + length b ≤ n → padded n x (l ++ b) ≡ sets (padded n x l) (length l) b
  padded_more [] l h = rw (append-nil l)
  padded_more (y ∷ b) l h =
      let e : length (l ++ (y ∷ [])) ≡ suc (length l) = omega (arith, length-append l (y ∷ [])) in
      ap (λ (m : List A). padded n x m) (sym (append_snoc l y b))
      ∙ padded_more b (l ++ (y ∷ [])) (omega (arith, e, h))
      ∙ rw (padded_one l y (omega (arith, h)), e)

  -- another element in the place of one that is held
  pub padded_set : (l : List A) (i : ℕ) (y : A) → i < length l → padded n x (set l i y) ≡ set (padded n x l) i y
  padded_set l i y h = rw (length-set l i y) (sym (set-append_left l (replicate (n - length l) x) i y h))

  pub padded_at : (l : List A) (i : ℕ) (d : A) → i < length l → get_or (padded n x l) i d ≡ get_or l i d
  padded_at l i d h = get_or-append l (replicate (n - length l) x) d i h

  -- more room after an array is more room after what it holds
  pub padded_again : (k : ℕ) (l : List A) → k ≤ n → padded n x (padded k x l) ≡ padded n x l
  padded_again k l h =
      let m : ℕ = k - length l in
      let r : ℕ = n - length (padded k x l) in
      let e : m + r ≡ n - length l = omega (arith, h, length-append l (replicate m x), length-replicate m x) in
      append_assoc l (replicate m x) (replicate r x) ∙ ap (λ (z : List A). l ++ z) (replicate-append-replicate m r x ∙ ap (λ (i : ℕ). replicate i x) e)

  -- a list that fits fills the array exactly, and one that does not makes it longer
  padded_length : (l : List A) → length (padded n x l) ≡ length l + (n - length l)
  padded_length l = length-append l (replicate (n - length l) x) ∙ ap (λ i. length l + i) (length-replicate (n - length l) x)

  pub padded_full : (l : List A) → length l ≤ n → length (padded n x l) ≡ n
  padded_full l h = omega (arith, h, padded_length l)

  pub padded_holds : (l : List A) → length (padded n x l) ≡ n → length l ≤ n
  padded_holds l e = omega (arith, e, padded_length l)
