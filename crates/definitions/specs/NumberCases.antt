-- Every number of refusal with its place or effect, and the answers that refuse nothing, by examples: one table. Section "Numbers of refusal"; document 02, T-03.
-- proofs/EveryNumber.antt has the statement.
use Rattle.std.specs.Prelude.{Bool, false, List, [], ◌∷◌, ◌++◌, map, ℕ, zero, suc, ◌/◌, get_or, replicate, eqb, Some, None}
use Prim.Native.String.{String}
use Rattle.forms.specs.Bytes.{text}
use Rattle.definitions.specs.declared.table.Table.{Table}
use Rattle.definitions.specs.declared.packets.Direction.TheVariants.{Client}
use Rattle.definitions.specs.declared.packets.FieldMap.{FieldMap}
use Rattle.definitions.specs.Limits.{Limits, document_limits}
use Rattle.definitions.specs.Lists.{any?, same_bytes}
use Rattle.definitions.specs.OptionValues.{OptionValue, Name, Protocol, Pattern}
use Rattle.definitions.specs.Tables.{table_of}
use Rattle.definitions.specs.Starts.{start_at}
use Rattle.definitions.specs.Reading.{read}
use Rattle.definitions.specs.Canonical.{decimal, canonical_text}
use Rattle.definitions.specs.Writing.{writes, buffer_after}
use Rattle.definitions.specs.Packet.{packet_answer}
use Rattle.definitions.specs.Fields.{fields_check}
use Rattle.definitions.specs.Answers.{placement_of, verdict_answer, first_answer, next_answer}
use Rattle.definitions.specs.Books.{judge}
use Rattle.definitions.specs.Decisions.{decision}
use Rattle.definitions.specs.AnswerNumbers.{read_numbers, write_numbers, packet_numbers, check_numbers, verdict_numbers, answer_numbers}
use Rattle.definitions.specs.AnswerNumbers.{judgement_numbers, decision_numbers}
use Rattle.definitions.specs.Cases.{hex, found, packet_with, uri_only}

-- what the definitions give, and what document 01 says: a number and its values
pub record Example : Type 0 where
  pub given : List ℕ
  pub said : List ℕ

unfoldable pub agrees : Example → Bool
agrees e = same_bytes e.given e.said

-- whether a number is said in one of the examples
unfoldable pub shown_in : List Example → ℕ → Bool
shown_in es n = any? (λ (e : Example). eqb (get_or e.said 0 0) n) es

-- the section's numbers, and T-03's
unfoldable pub refusal_numbers : List ℕ
refusal_numbers = 1 ∷ 2 ∷ 3 ∷ 4 ∷ 5 ∷ 6 ∷ 7 ∷ 8 ∷ 9 ∷ 10 ∷ 11 ∷ 12 ∷ 20 ∷ 21 ∷ 22 ∷ 30 ∷ 31 ∷ 32 ∷ 33 ∷ 34 ∷ 35 ∷ 36 ∷ 50 ∷ 51 ∷ 52 ∷ 53 ∷ []

-- ---- what is given to the entries

-- limits for examples that need no long texts: few bytes are computed sooner, and what is read, written or matched under narrow limits is so under all that allow more
-- (limit_laws)
abbrev pub narrow_limits : Limits
narrow_limits = record { text = 128; canonical = 128; room = 128 }

-- the table of some options after a name and a protocol, and one with a protocol beyond its limit
unfoldable pub rule_with : List OptionValue → Table
rule_with es = table_of narrow_limits.room (Name (text "n") ∷ Protocol 6 ∷ es)

unfoldable pub ill_formed : Table
ill_formed = table_of narrow_limits.room (Name (text "n") ∷ Protocol 256 ∷ [])

-- half as many pattern bytes as a table has room for, each written in hex: the canonical text is longer than one may be
unfoldable pub long_rule : Table
long_rule = table_of document_limits.room (Name (text "n") ∷ Protocol 6 ∷ Pattern false (replicate (document_limits.room / 2) 0) ∷ [])

-- a packet of 20 bytes: from the first on, and from the flags on, as said
unfoldable pub header : String → String → List ℕ
header first flags = hex first ++ (hex "00140000" ++ (hex flags ++ hex "400600000102030405060708"))

unfoldable pub good : List ℕ
good = packet_with (text "aXbX")

unfoldable pub no_fields : FieldMap
no_fields = uri_only None

unfoldable pub long_uri : FieldMap
long_uri = uri_only (Some (record { start = 0; len = 1 }))

-- ---- examples of each entry

unfoldable pub reads : String → List ℕ → Example
reads s said = record { given = read_numbers (read document_limits (text s)).outcome; said = said }

-- an option after a name and a protocol, 31 bytes
unfoldable pub reads_option : String → List ℕ → Example
reads_option s said =
    record { given = read_numbers (read document_limits (text "F-SBID(--name \"n\";--protocol 6;" ++ (text s ++ text ")"))).outcome; said = said }

-- the text of some options after a name and a protocol, as canonical text has them
unfoldable pub after_head : List ℕ → List ℕ
after_head options = text "F-SBID( --name \"n\"; --protocol 6;" ++ (options ++ text " )")

-- the canonical text of what is read
unfoldable pub rewrites : String → String → Example
rewrites s said = record { given = canonical_text (read document_limits (after_head (text s))).table; said = after_head (text said) }

-- the answer, and the whole buffer afterwards
unfoldable pub writes_to : Table → List ℕ → List ℕ → Example
writes_to t out said = record { given = write_numbers (writes document_limits t out) ++ buffer_after document_limits t out; said = said }

unfoldable pub seen : List ℕ → List ℕ → Example
seen p said = record { given = packet_numbers (packet_answer p []); said = said }

unfoldable pub judged : Table → List ℕ → FieldMap → List ℕ → Example
judged t p m said = record { given = verdict_numbers (verdict_answer t p [] Client m); said = said }

unfoldable pub first_of : Table → List ℕ → FieldMap → List ℕ → Example
first_of t p m said = record { given = answer_numbers (first_answer t p [] Client m); said = said }

unfoldable pub next_of : Table → List ℕ → List ℕ → Example
next_of t held said = record { given = answer_numbers (next_answer t good [] Client no_fields (placement_of (map start_at held))); said = said }

-- a rule that any TCP packet meets: number, state and action as said
unfoldable pub rule_line : String → List ℕ
rule_line front = text front ++ text "F-SBID(--name \"a\";--protocol 6;)\n"

-- 64 rules, the numbers 1 to 64
unfoldable pub rules_from : ℕ → ℕ → List ℕ
rules_from zero n = []
rules_from (suc k) n = decimal n ++ (rule_line "\ton\tpass\t" ++ rules_from k (suc n))

unfoldable pub sixty_four : List ℕ
sixty_four = rules_from 64 1

unfoldable pub judges : List ℕ → List ℕ → Example
judges book said = record { given = judgement_numbers (judge document_limits book); said = said }

unfoldable pub decides_for : List ℕ → List ℕ → FieldMap → List ℕ → Example
decides_for book p m said = record { given = decision_numbers (decision document_limits p [] Client m book); said = said }

-- a refusal of "first" and "next": its number, and a placement of count 0
unfoldable pub refused_with : ℕ → List ℕ
refused_with n = n ∷ replicate 10 0

unfoldable pub number_cases : List Example
number_cases =
    -- reading: number and place
    reads_option "" (0 ∷ 0 ∷ []) ∷
    reads "" (1 ∷ 0 ∷ []) ∷
    reads "F-SBID(\t)" (2 ∷ 7 ∷ []) ∷
    reads "f-sbid()" (3 ∷ 0 ∷ []) ∷
    reads "F-SBID( -name \"n\"; )" (4 ∷ 8 ∷ []) ∷
    reads_option "--tag 1;" (5 ∷ 31 ∷ []) ∷
    reads_option "--ip_id 1x;" (6 ∷ 40 ∷ []) ∷
    reads_option "--ip_id 65536;" (7 ∷ 39 ∷ []) ∷
    reads_option "--same_ip;--name \"m\";" (8 ∷ 41 ∷ []) ∷
    reads_option "--no_case;" (9 ∷ 31 ∷ []) ∷
    reads_option "--pattern \"a\";--distance 1,match,reverse;" (10 ∷ 31 ∷ []) ∷
    reads_option "--src_addr [0.0.0.0,0.0.0.0,0.0.0.0,0.0.0.0,0.0.0.0,0.0.0.0,0.0.0.0,0.0.0.0,0.0.0.0];" (11 ∷ 31 ∷ []) ∷
    reads "F-SBID(--name \"n\";)" (12 ∷ 19 ∷ []) ∷
    -- writing: number, bytes written, and the buffer; refused, it is as it was
    writes_to (rule_with []) (replicate 37 7) (0 ∷ 35 ∷ (text "F-SBID( --name \"n\"; --protocol 6; )" ++ (7 ∷ 7 ∷ []))) ∷
    writes_to ill_formed (7 ∷ 7 ∷ []) (20 ∷ 0 ∷ 7 ∷ 7 ∷ []) ∷
    writes_to long_rule (7 ∷ 7 ∷ []) (21 ∷ 0 ∷ 7 ∷ 7 ∷ []) ∷
    writes_to (rule_with []) (7 ∷ 7 ∷ []) (22 ∷ 0 ∷ 7 ∷ 7 ∷ []) ∷
    -- a packet: number, header fields
    seen good (0 ∷ 44 ∷ 40 ∷ 6 ∷ 0 ∷ 4663 ∷ 64 ∷ 0 ∷ 168430335 ∷ 16909060 ∷ 0 ∷ 0 ∷ []) ∷
    seen (replicate 2049 69) (30 ∷ []) ∷
    seen (header "3500" "0000") (31 ∷ []) ∷
    seen (header "4600" "0000") (32 ∷ []) ∷
    seen (header "4500" "2000") (33 ∷ []) ∷
    seen (header "4500" "0000") (34 ∷ []) ∷
    -- the fields: number
    record { given = check_numbers (fields_check [] [] no_fields); said = 0 ∷ [] } ∷
    record { given = check_numbers (fields_check [] [] long_uri); said = 35 ∷ [] } ∷
    -- a verdict: number, met; refused, there is none
    judged (rule_with (Pattern false (text "X") ∷ [])) good no_fields (0 ∷ 1 ∷ []) ∷
    judged (rule_with (Pattern false (text "q") ∷ [])) good no_fields (0 ∷ 0 ∷ []) ∷
    judged ill_formed good no_fields (20 ∷ 0 ∷ []) ∷
    judged (rule_with []) (replicate 2049 69) no_fields (30 ∷ 0 ∷ []) ∷
    judged (rule_with []) (header "3500" "0000") no_fields (31 ∷ 0 ∷ []) ∷
    judged (rule_with []) (header "4600" "0000") no_fields (32 ∷ 0 ∷ []) ∷
    judged (rule_with []) (header "4500" "2000") no_fields (33 ∷ 0 ∷ []) ∷
    judged (rule_with []) (header "4500" "0000") no_fields (34 ∷ 0 ∷ []) ∷
    judged (rule_with []) good long_uri (35 ∷ 0 ∷ []) ∷
    -- first and next: number, found, count, starts and unused room
    first_of (rule_with (Pattern false (text "X") ∷ [])) good no_fields (found (1 ∷ [])) ∷
    first_of (rule_with []) good long_uri (refused_with 35) ∷
    next_of (rule_with (Pattern false (text "X") ∷ [])) (1 ∷ []) (found (3 ∷ [])) ∷
    next_of (rule_with (Pattern false (text "X") ∷ [])) (3 ∷ []) (refused_with 0) ∷
    next_of (rule_with (Pattern false (text "X") ∷ [])) [] (refused_with 36) ∷
    -- a book: number, line, rules
    judges (rule_line "1\ton\tpass\t" ++ rule_line "65535\toff\thold\t") (0 ∷ 0 ∷ 2 ∷ []) ∷
    judges (replicate 65537 10) (50 ∷ 0 ∷ 0 ∷ []) ∷
    judges (rule_line "1\ton\tpass\t" ++ rule_line "02\ton\tpass\t") (51 ∷ 2 ∷ 0 ∷ []) ∷
    judges (rule_line "5\ton\tpass\t" ++ rule_line "5\ton\tpass\t") (52 ∷ 2 ∷ 0 ∷ []) ∷
    judges (rule_line "5\ton\tpass\t" ++ rule_line "0\ton\tpass\t") (51 ∷ 2 ∷ 0 ∷ []) ∷
    judges (sixty_four ++ text "\n") (53 ∷ 65 ∷ 0 ∷ []) ∷
    -- a decision: number, line, pass, rule
    decides_for (rule_line "7\ton\tpass\t") good no_fields (0 ∷ 0 ∷ 1 ∷ 7 ∷ []) ∷
    decides_for (rule_line "7\ton\thold\t") good no_fields (0 ∷ 0 ∷ 0 ∷ 7 ∷ []) ∷
    decides_for (rule_line "7\toff\tpass\t") good no_fields (0 ∷ 0 ∷ 0 ∷ 0 ∷ []) ∷
    decides_for (rule_line "7\ton\tpass\t") good long_uri (0 ∷ 0 ∷ 0 ∷ 0 ∷ []) ∷
    decides_for (rule_line "7\tON\tpass\t") good no_fields (51 ∷ 1 ∷ 0 ∷ 0 ∷ []) ∷
    []
