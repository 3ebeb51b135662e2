-- ip_id by examples: what its texts are written as, and tables that hold the old kind. Document 02, T-09. proofs/IpIdCases.antt has the statements, that of the
-- last four roundtrip/proofs/IpIdLimits.antt.
use Rattle.std.specs.Prelude.{false, List, [], ◌∷◌, ◌++◌, ℕ, ◌+◌, ◌-◌, length, replicate}
use Prim.Native.String.{String}
use Rattle.forms.specs.Bytes.{text}
use Rattle.definitions.specs.declared.table.NumberField.TheVariants as number_field
use Rattle.definitions.specs.declared.table.Item.TheVariants as item
use Rattle.definitions.specs.declared.table.Table.{Table}
use Rattle.definitions.specs.OptionValues.{Pattern}
use Rattle.definitions.specs.Forms.{test}
use Rattle.definitions.specs.Reading.{read}
use Rattle.definitions.specs.Writing.{writes}
use Rattle.definitions.specs.AnswerNumbers.{write_numbers}
use Rattle.definitions.specs.NumberCases.{narrow_limits, Example, rule_with, good, no_fields, long_uri, reads_option, after_head, rewrites, writes_to, judged, first_of, next_of, refused_with}

-- an option before a pattern of so many bytes
unfoldable pub before_pattern : String → ℕ → List ℕ
before_pattern s n = after_head (text s ++ (text " --pattern \"" ++ (replicate n 97 ++ text "\";")))

-- such a text, so many bytes below the narrow limit: what the writer answers for what is read
unfoldable pub rewrites_at_limit : String → ℕ → List ℕ → Example
rewrites_at_limit s below said =
    record {
      given = write_numbers (writes narrow_limits
          (read narrow_limits (before_pattern s (narrow_limits.text - (length (before_pattern s 0) + below)))).table (replicate narrow_limits.canonical 7));
      said = said;
    }

unfoldable pub old_kind : Table
old_kind = rule_with (test (item.Number (record { field = number_field.IpId; number = 5 })) ∷ [])

unfoldable pub old_kind_after_pattern : Table
old_kind_after_pattern = rule_with (Pattern false (text "X") ∷ test (item.Number (record { field = number_field.IpId; number = 4663 })) ∷ [])

unfoldable pub ip_id_cases : List Example
ip_id_cases =
    -- the table is that of `--ip.id = N`
    rewrites " --ip_id 5;" " --ip.id = 5;" ∷
    rewrites " --IP_ID  05 ;" " --ip.id = 5;" ∷
    rewrites " --ip.id & 0xffff = 0x5;" " --ip.id = 5;" ∷
    rewrites " --ip_id 0; --ip_id 65535;" " --ip.id = 0; --ip.id = 65535;" ∷
    rewrites " --ip.id & 0 = 5; --ip.id >= 5;" " --ip.id & 0 = 5; --ip.id >= 5;" ∷
    -- its form and its limit are its own
    reads_option "--ip_id = 5;" (6 ∷ 39 ∷ []) ∷
    reads_option "--ip_id 0x5;" (6 ∷ 40 ∷ []) ∷
    reads_option "--ip_id 70000;" (7 ∷ 39 ∷ []) ∷
    []

-- a table that holds the old kind is refused, before all else
unfoldable pub old_kind_cases : List Example
old_kind_cases =
    writes_to old_kind (7 ∷ 7 ∷ []) (20 ∷ 0 ∷ 7 ∷ 7 ∷ []) ∷
    judged old_kind good no_fields (20 ∷ 0 ∷ []) ∷
    judged old_kind_after_pattern good no_fields (20 ∷ 0 ∷ []) ∷
    judged old_kind_after_pattern (replicate 2049 69) long_uri (20 ∷ 0 ∷ []) ∷
    first_of old_kind_after_pattern good no_fields (refused_with 20) ∷
    next_of old_kind_after_pattern (1 ∷ []) (refused_with 20) ∷
    next_of old_kind_after_pattern [] (refused_with 20) ∷
    []

-- texts of two bytes less than the limit, of one byte less and at the limit; and the first of them with the other spelling
unfoldable pub ip_id_limits : List Example
ip_id_limits =
    rewrites_at_limit " --ip_id 5;" 2 (0 ∷ narrow_limits.canonical ∷ []) ∷
    rewrites_at_limit " --ip_id 5;" 1 (21 ∷ 0 ∷ []) ∷
    rewrites_at_limit " --ip_id 5;" 0 (21 ∷ 0 ∷ []) ∷
    rewrites_at_limit " --ip.id = 5;" 0 (0 ∷ narrow_limits.canonical ∷ []) ∷
    []
