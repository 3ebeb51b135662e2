-- UP TO n WHOLE RECORDS: where the record at the front is whole they are it and up to one less after it, and else there is none. So there are at most n; if there
-- are n, the record at the front is whole and n less one follow; and as many as there are make the same list.
use mathlib.Core.Path.{◌≡◌, refl, ap, ◌∙◌}
use mathlib.Core.List.{List, [], ◌∷◌}
use Prim.Native.Nat.{ℕ, zero, suc, ◌+◌, ◌≤◌, ◌<◌}
use native.Mathlib.Omega.{arith}
use lib.ListN.{length, drop}
use lib.Dec.{leb}
use borrow.Author.Tests.{le-leb, lt-leb, leb-true, leb-false}
use Rattle.forms.proofs.Bools.{by_cases}
use Rattle.definitions.specs.Blocks.{PacketRecord, record_head, record_length, record_of, records_up_to, bytes_up_to}

pub record_head_lem : (l : List ℕ) → record_head ≤ record_length l
unfolding record_length
record_head_lem l = omega arith

-- ---- the record at the front is whole

module _ (n : ℕ) (l : List ℕ) (h : record_length l ≤ length l) where
  pub record_suc : records_up_to (suc n) l ≡ record_of l ∷ records_up_to n (drop (record_length l) l)
  unfolding records_up_to
  record_suc = rw (le-leb (record_length l) (length l) h)

  pub bytes_suc : bytes_up_to (suc n) l ≡ record_length l + bytes_up_to n (drop (record_length l) l)
  unfolding bytes_up_to
  bytes_suc = rw (le-leb (record_length l) (length l) h)

-- ---- it is not

pub record_none : (n : ℕ) (l : List ℕ) → length l < record_length l → records_up_to n l ≡ []
unfolding records_up_to
record_none zero l h = refl
record_none (suc n) l h = rw (lt-leb (record_length l) (length l) h)

pub bytes_none : (n : ℕ) (l : List ℕ) → length l < record_length l → bytes_up_to n l ≡ 0
unfolding bytes_up_to
bytes_none zero l h = refl
bytes_none (suc n) l h = rw (lt-leb (record_length l) (length l) h)

-- ---- either way

whole_or_not : {P : Type 0} (l : List ℕ) → (record_length l ≤ length l → P) → (length l < record_length l → P) → P
whole_or_not l whole not-whole =
    by_cases (leb (record_length l) (length l)) (λ t. whole (leb-true _ _ t)) (λ f. not-whole (leb-false _ _ f))

pub records_le : (n : ℕ) (l : List ℕ) → length (records_up_to n l) ≤ n
unfolding records_up_to
records_le zero l = omega arith
records_le (suc n) l =
    whole_or_not l
    (λ h. rw (record_suc n l h) (omega (arith, records_le n (drop (record_length l) l))))
    (λ h. rw (record_none (suc n) l h) (omega arith))

-- as many as there are
pub records_again : (n : ℕ) (l : List ℕ) → records_up_to (length (records_up_to n l)) l ≡ records_up_to n l
unfolding records_up_to
records_again zero l = refl
records_again (suc n) l =
    let rest : List ℕ = drop (record_length l) l in
    whole_or_not l
    (λ h.
    rw (record_suc n l h)
    (record_suc (length (records_up_to n rest)) l h ∙ ap (λ (k : List PacketRecord). record_of l ∷ k) (records_again n rest)))
    (λ h. rw (record_none (suc n) l h))

-- there are as many as asked for
module _ (n : ℕ) (l : List ℕ) (e : length (records_up_to (suc n) l) ≡ suc n) where
  pub record_whole : record_length l ≤ length l
  record_whole =
      whole_or_not l (λ h. h) (λ h. absurd (let z : ⊥ = omega (arith, e, ap length (record_none (suc n) l h)) in z))

  pub record_rest : length (records_up_to n (drop (record_length l) l)) ≡ n
  record_rest = omega (arith, e, ap length (record_suc n l record_whole))
