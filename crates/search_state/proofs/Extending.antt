-- From starts put in one by one to a placement with its unused room zero; and from the answer over nothing chosen to the outcome.
use mathlib.Core.Path.{◌≡◌, refl, sym, ◌∙◌, subst}
use mathlib.Core.List.Memᴰ.{head as here}
use mathlib.Core.List.{List, [], ◌∷◌, ◌++◌, append-nil, Memᴰ as Mem}
use Prim.Native.Nat.{ℕ, ◌+◌, ◌-◌, ◌≤◌}
use native.Mathlib.Nat.{suc-add, zero-add}
use native.Mathlib.Omega.{arith}
use lib.ListN.{length, set, replicate, length-append}
use lib.Seq.{set-append_seam, append_snoc}
use Rattle.definitions.specs.declared.packets.Start.{Start}
use Rattle.definitions.specs.Limits.{max_patterns}
use Rattle.definitions.specs.Starts.{start_at}
use Rattle.definitions.specs.Answers.{placement_of}
use Rattle.search_state.specs.Outcomes.{outcome_of}
use Rattle.search_state.specs.Choosing.{extend, first_of}

extend_to : (q pre : List Start) (m : ℕ)
    → extend (record { count = length pre; starts = pre ++ replicate (length q + m) (start_at 0) }) q
    ≡ record { count = length (pre ++ q); starts = (pre ++ q) ++ replicate m (start_at 0) }
unfolding extend
extend_to [] pre m = rw (append-nil pre, zero-add m)
extend_to (s ∷ q) pre m =
    let n : length (pre ++ (s ∷ [])) ≡ length pre + 1 = length-append pre (s ∷ []) in
    let room = replicate (length q + m) (start_at 0) in
    let e : set (pre ++ start_at 0 ∷ room) (length pre) s ≡ (pre ++ (s ∷ [])) ++ room = set-append_seam pre (start_at 0) room s ∙ sym (append_snoc pre s room) in
    rw (suc-add (length q) m, e, ← n, ← append_snoc pre s q) (extend_to q (pre ++ (s ∷ [])) m)

extend_none : (q : List Start) → length q ≤ max_patterns → extend (placement_of []) q ≡ placement_of q
extend_none q h =
    let e : length q + (max_patterns - length q) ≡ max_patterns = omega arith in
    subst (λ (n : ℕ). extend (record { count = 0; starts = replicate n (start_at 0) }) q ≡ placement_of q) e (extend_to q [] (max_patterns - length q))

pub first_outcome : (ps : List (List Start)) → ((q : List Start) → Mem q ps → length q ≤ max_patterns) → first_of (placement_of []) ps ≡ outcome_of ps
first_outcome [] h = refl
first_outcome (q ∷ ps) h = rw (extend_none q (h q (here refl)))
