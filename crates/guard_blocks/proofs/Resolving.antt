-- The loop over the rules keeps what the numbers are resolved to: an open number is what the rules left decide, any other stays. A rule's turn changes nothing
-- of that (`resolved_on`). At first all are open (`resolved_in`); in the end no rule is left (`resolved_out`), or no number is open (`resolved_all`).
use Rattle.std.specs.Prelude.{if◌then◌else◌}
use mathlib.Core.Path.{◌≡◌, refl}
use mathlib.Core.Bool.{Bool, true, false, ◌&&◌}
use mathlib.Core.List.{List, [], ◌∷◌, ◌++◌, map}
use Prim.Native.Nat.{ℕ, ◌+◌, ◌<◌, ◌≤◌}
use native.Mathlib.Omega.{arith}
use lib.ListN.{length, take, drop, replicate}
use borrow.Author.Tests.{ne_eqb}
use Rattle.forms.proofs.Bools.{by_cases}
use Rattle.definitions.specs.Limits.{document_limits}
use Rattle.definitions.specs.Lists.{any?}
use Rattle.definitions.specs.Books.{Rule}
use Rattle.definitions.specs.Decisions.{decided}
use Rattle.definitions.specs.Blocks.{PacketRecord, action_number, record_number}
use Rattle.laws.proofs.Checks.{neither}
use Rattle.guard_numbers.specs.OpenNumbers.{open_number, is_open, closed}
use Rattle.guard_blocks.specs.Numbering.{renumbered, decides_record, by_rule}

-- a number by the rules left
abbrev resolved_one : List Rule → PacketRecord → ℕ → ℕ
resolved_one rs k x = if is_open x then record_number document_limits rs k else x

unfoldable pub resolved : List Rule → List PacketRecord → List ℕ → List ℕ
resolved rs [] out = out
resolved rs (k ∷ ks) [] = []
resolved rs (k ∷ ks) (x ∷ out) = resolved_one rs k x ∷ resolved rs ks out

-- ---- at first

open_open : is_open open_number ≡ true
unfolding is_open
open_open = refl

pub resolved_in : (rs : List Rule) (ks : List PacketRecord) (tail : List ℕ)
    → resolved rs ks (replicate (length ks) open_number ++ tail) ≡ map (record_number document_limits rs) ks ++ tail
unfolding resolved
resolved_in rs [] tail = refl
resolved_in rs (k ∷ ks) tail = rw (open_open, resolved_in rs ks tail)

-- ---- a rule's turn

answer_closed : (n : ℕ) → n < open_number → is_open n ≡ false
unfolding is_open
answer_closed n h = ne_eqb n open_number (λ e. absurd (let z : ⊥ = omega (arith, h, e) in z))

first_decides : (r : Rule) (rs : List Rule) (k : PacketRecord) (b : Bool) → decides_record document_limits r k ≡ b
    → record_number document_limits (r ∷ rs) k ≡ (if b then action_number r.action + r.number else record_number document_limits rs k)
unfolding record_number decided decides_record
first_decides r rs k true e = rw e
first_decides r rs k false e = rw e

turn_one : (r : Rule) (rs : List Rule) (k : PacketRecord) (x : ℕ) → action_number r.action + r.number < open_number
    → resolved_one (r ∷ rs) k x ≡ resolved_one rs k (if is_open x && decides_record document_limits r k then action_number r.action + r.number else x)
turn_one r rs k x h =
    by_cases (is_open x)
    (λ t. by_cases (decides_record document_limits r k)
    (λ d. rw (t, d, answer_closed (action_number r.action + r.number) h) (first_decides r rs k true d))
    (λ n. rw (t, n) (rw t (first_decides r rs k false n))))
    (λ f. rw f (rw f))

pub resolved_on : (r : Rule) (rs : List Rule) (ks : List PacketRecord) (out : List ℕ) → action_number r.action + r.number < open_number
    → resolved (r ∷ rs) ks out ≡ resolved rs ks (by_rule document_limits ks r out)
unfolding resolved by_rule renumbered
resolved_on r rs [] out h = refl
resolved_on r rs (k ∷ ks) [] h = refl
resolved_on r rs (k ∷ ks) (x ∷ out) h = rw (turn_one r rs k x h, resolved_on r rs ks out h)

-- ---- in the end

none_left : (k : PacketRecord) (x : ℕ) → resolved_one [] k x ≡ closed x
unfolding closed record_number decided
none_left k x = refl

pub resolved_out : (ks : List PacketRecord) (out : List ℕ) → length ks ≤ length out
    → resolved [] ks out ≡ map closed (take (length ks) out) ++ drop (length ks) out
unfolding resolved
resolved_out [] out h = refl
resolved_out (k ∷ ks) [] h = absurd (omega (arith, h))
resolved_out (k ∷ ks) (x ∷ out) h = rw (none_left k x, resolved_out ks out (omega (arith, h)))

none_open : (rs : List Rule) (k : PacketRecord) (x : ℕ) → is_open x ≡ false → resolved_one rs k x ≡ closed x
unfolding closed
none_open rs k x f = rw f

pub resolved_all : (rs : List Rule) (ks : List PacketRecord) (out : List ℕ) → length ks ≤ length out → any? is_open (take (length ks) out) ≡ false
    → resolved rs ks out ≡ map closed (take (length ks) out) ++ drop (length ks) out
unfolding resolved any?
resolved_all rs [] out h f = refl
resolved_all rs (k ∷ ks) [] h f = absurd (omega (arith, h))
resolved_all rs (k ∷ ks) (x ∷ out) h f =
    let w = neither (is_open x) (any? is_open (take (length ks) out)) f in
    rw (none_open rs k x w.0, resolved_all rs ks out (omega (arith, h)) w.1)
