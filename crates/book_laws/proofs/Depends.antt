-- WHAT A DECISION DEPENDS ON beside book, direction and map: the lent lengths, the packet's first four bytes, its datagram and the present fields
-- (`decision_depends`). A rule on a field that is missing never decides (`missing_never`), whatever packet and decoded buffer hold. The user's first question, for a
-- whole book. Document 02, T-03.
use Rattle.std.specs.Prelude.{Result, Ok, Err, ℕ}
use mathlib.Core.Path.{◌≡◌, refl, ap}
use mathlib.Core.Bool.{false, ◌&&◌, and-false}
use mathlib.Core.List.{List, [], ◌∷◌, Memᴰ as Mem}
use Prim.Native.Nat.{ℕ}
use Rattle.definitions.specs.declared.packets.Direction.{Direction}
use Rattle.definitions.specs.declared.packets.FieldMap.{FieldMap}
use Rattle.definitions.specs.declared.table.Context.{Context}
use Rattle.definitions.specs.declared.table.Slot.{Slot}
use Rattle.definitions.specs.declared.answers.Verdict.{Verdict}
use Rattle.definitions.specs.declared.answers.Verdict.TheVariants as verdict
use Rattle.definitions.specs.declared.answers.BookRefusal.{BookRefusal}
use Rattle.definitions.specs.declared.answers.Refusal.{Refusal}
use Rattle.definitions.specs.Limits.{Limits}
use Rattle.definitions.specs.Reading.{read}
use Rattle.definitions.specs.Items.{slots_of}
use Rattle.definitions.specs.Fields.{present}
use Rattle.definitions.specs.Answers.{verdict_answer}
use Rattle.definitions.specs.Books.{Rule, rules_of, judge}
use Rattle.definitions.specs.Decisions.{is_on, is_met, decides, decided, decided_if, decision}
use Rattle.laws.proofs.Depends.{Alike, verdict_depends}
use Rattle.laws.proofs.Absent.{fields_of, absent_verdict}

module _ (lim : Limits) (p p' decoded decoded' : List ℕ) (dir : Direction) (m : FieldMap) (h : Alike p p' decoded decoded' m) where
  decides_same : (r : Rule) → decides lim p decoded dir m r ≡ decides lim p' decoded' dir m r
  unfolding decides
  decides_same r =
      ap (λ (v : Result Verdict Refusal). is_on r.state && is_met v) (verdict_depends p p' decoded decoded' m h (read lim r.source).table dir)

  decided_same : (rs : List Rule) → decided lim p decoded dir m rs ≡ decided lim p' decoded' dir m rs
  unfolding decided
  decided_same [] = refl
  decided_same (r ∷ rs) = rw (decides_same r, decided_same rs)

  pub decision_depends : (book : List ℕ) → decision lim p decoded dir m book ≡ decision lim p' decoded' dir m book
  unfolding decision
  decision_depends book = go (judge lim book)
    where
      go : (j : Result ℕ BookRefusal) → decided_if lim p decoded dir m j (rules_of book) ≡ decided_if lim p' decoded' dir m j (rules_of book)
      go (Ok n) = decided_same (rules_of book)
      go (Err e) = refl

-- a pattern, negated or not, or a data_size on an absent field
pub missing_never : (lim : Limits) (r : Rule) (sl : Slot) (c : Context) → Mem sl (slots_of (read lim r.source).table) → Mem c (fields_of sl.item)
    → (m : FieldMap) → present m c ≡ false → (p decoded : List ℕ) (dir : Direction) → decides lim p decoded dir m r ≡ false
unfolding decides
missing_never lim r sl c used looks m absent p decoded dir =
    rw (unmet (verdict_answer (read lim r.source).table p decoded dir m)
    (absent_verdict (read lim r.source).table sl c used looks m absent p decoded dir)) (and-false (is_on r.state))
  where
    unmet : (v : Result Verdict Refusal) → (v ≡ Ok verdict.Met → ⊥) → is_met v ≡ false
    unmet (Ok verdict.Met) f = absurd (f refl)
    unmet (Ok verdict.NotMet) f = refl
    unmet (Err c) f = refl
