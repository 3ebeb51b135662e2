-- The starts of a placement, and the list of placements, as a search from the placement written last has what is left of it.
use Rattle.std.specs.Prelude.{Option, Some, Result, Ok, Err}
use mathlib.Core.Path.{◌≡◌, refl, sym, ap, ◌∙◌}
use mathlib.Core.List.{List, [], ◌∷◌, ◌++◌}
use Prim.Native.Nat.{ℕ, suc, ◌+◌, ◌-◌, ◌≤◌, ◌<◌}
use native.Mathlib.Omega.{arith}
use lib.ListN.{length, take, drop, get_or}
use Rattle.forms.specs.Bytes.{text}
use Rattle.definitions.specs.declared.packets.Start.{Start}
use Rattle.definitions.specs.declared.packets.Placement.{Placement}
use Rattle.definitions.specs.declared.answers.Found.TheVariants.{Placed}
use Rattle.definitions.specs.declared.answers.Answer.{Answer}
use Rattle.definitions.specs.Starts.{start_at}
use Rattle.definitions.specs.Lists.{keep}
use Rattle.definitions.specs.Placements.{lex_less}
use Rattle.definitions.specs.Answers.{starts_of, placement_of, head_of, unless}
use Rattle.list_laws.proofs.Firsts.{first_here, first_out}
use Rattle.write_bytes.specs.Puts.{puts, Puts}
use Rattle.write_bytes.proofs.Putting.{then, onward}
use Rattle.match_starts.specs.StartTexts.{start_text}
use Rattle.definitions.specs.declared.answers.Refusal.{Refusal}
use Rattle.search_state.specs.Outcomes.{outcome_of}
use Rattle.case_lists.specs.AnswerTexts.{starts_after, starts_text, placement_text, placements_after, max_after, list_text, check_text, answer_text}
use Rattle.case_lists.proofs.Rest.{starts_back, Ordered, first_rest, list_rest}

-- ---- starts

pub starts_on : (l : List Start) (n i : ℕ) → i < n → n ≤ length l
    → starts_after (drop i (take n l)) ≡ text "," ++ (start_text (get_or l i (start_at 0)) ++ starts_after (drop (i + 1) (take n l)))
unfolding starts_after
starts_on l n i h g = ap starts_after (first_here l n i (start_at 0) h g)

pub starts_end : (l : List Start) (n i : ℕ) → n ≤ i → starts_after (drop i (take n l)) ≡ []
unfolding starts_after
starts_end l n i h = ap starts_after (first_out l n i h)

pub starts_none : (l : List Start) (n : ℕ) → n ≡ 0 → starts_text (take n l) ≡ []
starts_none l n e = rw e

pub starts_first : (l : List Start) (n : ℕ) → 0 < n → n ≤ length l → starts_text (take n l) ≡ start_text (get_or l 0 (start_at 0)) ++ starts_after (drop 1 (take n l))
starts_first l n h g = ap starts_text (first_here l n 0 (start_at 0) h g)

-- ---- what a search says of the placements left

after_none : (x : Option Placement) (qs : List (List Start)) (k : ℕ) → x ≡ outcome_of qs → ((h : Placement) → x ≡ Some h → ⊥) → placements_after k qs ≡ []
unfolding placements_after
after_none x [] k e n = refl
after_none x (q ∷ qs) k e n = absurd (n (placement_of q) e)

after_over : (qs : List (List Start)) (h : Placement) → Some h ≡ outcome_of qs → placements_after 0 qs ≡ text ";..."
unfolding placements_after
after_over [] h e = cc
after_over (q ∷ qs) h e = refl

-- ---- what "first" answers: a refusal that is due, none, or a placement

pub first_not : (w : Result Unit Refusal) (l : List (List Start)) (a : Answer) → a ≡ unless w (head_of l) → (a.found ≡ Ok Placed → ⊥)
    → check_text w (list_text l) ≡ answer_text a
first_not (Ok tt) [] a e n = sym (ap answer_text e)
first_not (Ok tt) (q ∷ l) a e n = absurd (n (ap (λ (x : Answer). x.found) e))
first_not (Err r) l a e n = sym (ap answer_text e)

module _ (l : List (List Start)) (v : Ordered l) where
  -- a placement, and k of those after it
  abbrev from_one : ℕ → Placement → List ℕ
  from_one k h = placement_text (starts_of h) ++ placements_after k (keep (lex_less h.starts) l)

  pub first_one : (w : Result Unit Refusal) (a : Answer) → a ≡ unless w (head_of l) → a.found ≡ Ok Placed → check_text w (list_text l) ≡ from_one max_after a.placement
  first_one w a e n = go w l refl e
    where
      go : (w : Result Unit Refusal) (k : List (List Start)) → l ≡ k → a ≡ unless w (head_of k) → check_text w (list_text k) ≡ from_one max_after a.placement
      go (Ok tt) [] le h = cc
      go (Ok tt) (q ∷ qs) le h = sym (ap (λ (x : Answer). from_one max_after x.placement) h ∙ rw (starts_back q, first_rest l v q qs le))
      go (Err r) k le h = cc

  -- ---- one placement more

  after_one : (b : List Start) (h : Placement) → Some h ≡ outcome_of (keep (lex_less b) l) → (k : ℕ)
      → placements_after (suc k) (keep (lex_less b) l) ≡ text ";" ++ from_one k h
  unfolding placements_after
  after_one b h e k = go (keep (lex_less b) l) refl e
    where
      go : (j : List (List Start)) → keep (lex_less b) l ≡ j → Some h ≡ outcome_of j → placements_after (suc k) j ≡ text ";" ++ from_one k h
      go [] le f = cc
      go (q ∷ qs) le f =
          let g : h ≡ placement_of q = cc in
          sym (ap (λ (y : Placement). text ";" ++ from_one k y) g ∙ rw (starts_back q, list_rest l v b q qs le))

  -- ---- the loop: of the bytes to write, those of the placements after b are still to come, where k are written already; x is what the search found

  module _ (all start : List ℕ) (at : ℕ) (b : List Start) (out : List ℕ) (next k : ℕ)
      (left : puts start at all ≡ puts out next (placements_after (max_after - k) (keep (lex_less b) l)))
      {x : Option Placement} (e : x ≡ outcome_of (keep (lex_less b) l)) where
    pub left_none : ((h : Placement) → x ≡ Some h → ⊥) → Puts start at all out next
    unfolding puts
    left_none n = record { is = sym (left ∙ ap (puts out next) (after_none x (keep (lex_less b) l) (max_after - k) e n)) }

    pub left_on : k < max_after → {h : Placement} → x ≡ Some h → {o o' : List ℕ} {i j : ℕ} → Puts out next (59 ∷ []) o i
        → Puts o i (placement_text (starts_of h)) o' j
        → puts start at all ≡ puts o' j (placements_after (max_after - (k + 1)) (keep (lex_less h.starts) l))
    left_on g {h} n c d =
        let less : max_after - k ≡ suc (max_after - (k + 1)) = omega arith in
        left
        ∙ ap (λ (y : ℕ). puts out next (placements_after y (keep (lex_less b) l))) less
        ∙ ap (puts out next) (after_one b h (sym n ∙ e) (max_after - (k + 1)))
        ∙ onward (placements_after (max_after - (k + 1)) (keep (lex_less h.starts) l)) (then c d)

    pub left_over : max_after ≤ k → {h : Placement} → x ≡ Some h → {o : List ℕ} {i : ℕ} → Puts out next (text ";...") o i → Puts start at all o i
    left_over g {h} n c =
        let none : max_after - k ≡ 0 = omega arith in
        let rest = left ∙ ap (λ (y : ℕ). puts out next (placements_after y (keep (lex_less b) l))) none in
        record { is = c.is ∙ sym (rest ∙ ap (puts out next) (after_over (keep (lex_less b) l) h (sym n ∙ e))) }
