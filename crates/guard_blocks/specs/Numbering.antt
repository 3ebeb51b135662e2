-- The answers of a block while its rules are gone through: rule by rule, the packets that are not decided get their number.
use Rattle.std.specs.Prelude.{ℕ, ◌+◌, Bool, ◌&&◌, List, [], ◌∷◌, if◌then◌else◌}
use Rattle.definitions.specs.declared.table.Table.{Table}
use Rattle.definitions.specs.Limits.{Limits}
use Rattle.definitions.specs.Answers.{verdict_answer}
use Rattle.definitions.specs.Books.{Rule}
use Rattle.definitions.specs.Decisions.{is_met, decides}
use Rattle.definitions.specs.Blocks.{PacketRecord, action_number}
use Rattle.guard_numbers.specs.OpenNumbers.{is_open}

unfoldable pub meets_record : Table → PacketRecord → Bool
meets_record t k = is_met (verdict_answer t k.packet k.decoded k.direction k.fields)

-- the open numbers of those packets that pass a test become a
unfoldable pub renumbered : (PacketRecord → Bool) → ℕ → List PacketRecord → List ℕ → List ℕ
renumbered test a [] out = out
renumbered test a (k ∷ ks) [] = []
renumbered test a (k ∷ ks) (x ∷ out) = (if is_open x && test k then a else x) ∷ renumbered test a ks out

unfoldable pub decides_record : Limits → Rule → PacketRecord → Bool
decides_record lim r k = decides lim k.packet k.decoded k.direction k.fields r

-- by one rule
unfoldable pub by_rule : Limits → List PacketRecord → Rule → List ℕ → List ℕ
by_rule lim ks r out = renumbered (decides_record lim r) (action_number r.action + r.number) ks out
