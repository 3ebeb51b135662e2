-- Rule books (document 02, T-03) by examples, those of its open points among them: how books are judged, and what one decides. Crate book_laws has the
-- statements.
use Prim.Native.String.{String}
use Rattle.std.specs.Prelude.{ℕ, List, [], ◌∷◌, ◌++◌, replicate}
use Rattle.forms.specs.Bytes.{text}
use Rattle.definitions.specs.Limits.{document_limits}
use Rattle.definitions.specs.Cases.{hex}
use Rattle.definitions.specs.LoadedBooks.{rules_in, loaded}
use Rattle.definitions.specs.Blocks.{block_numbers}
use Rattle.definitions.specs.NumberCases.{Example, rule_line, judges, decides_for, sixty_four, no_fields, long_uri}

-- a rule that a payload with an X meets
unfoldable pub rule_x : String → List ℕ
rule_x front = text front ++ text "F-SBID(--name \"x\";--protocol 6;--pattern \"X\";)"

unfoldable pub line_x : String → List ℕ
line_x front = rule_x front ++ text "\n"

unfoldable pub book_texts : List Example
book_texts =
    -- the empty book has no rules
    judges [] (0 ∷ 0 ∷ 0 ∷ []) ∷
    -- every line is ended by LF; an empty line is of wrong form
    judges (rule_x "1\ton\tpass\t") (51 ∷ 1 ∷ 0 ∷ []) ∷
    judges (line_x "1\ton\tpass\t" ++ text "2") (51 ∷ 2 ∷ 0 ∷ []) ∷
    judges (text "\n") (51 ∷ 1 ∷ 0 ∷ []) ∷
    -- the text is all between the third tab and the LF
    judges (rule_x "1\ton\tpass\t" ++ text "\t\n") (2 ∷ 1 ∷ 0 ∷ []) ∷
    judges (rule_x "1\ton\tpass\t" ++ (13 ∷ 10 ∷ [])) (2 ∷ 1 ∷ 0 ∷ []) ∷
    judges (line_x "1\ton\tpass\t\t") (2 ∷ 1 ∷ 0 ∷ []) ∷
    judges (text "1\ton\tpass\t\n") (1 ∷ 1 ∷ 0 ∷ []) ∷
    judges (text "1\ton\tpass\n") (51 ∷ 1 ∷ 0 ∷ []) ∷
    -- numbers
    judges (line_x "0\ton\tpass\t") (51 ∷ 1 ∷ 0 ∷ []) ∷
    judges (line_x "65536\ton\tpass\t") (51 ∷ 1 ∷ 0 ∷ []) ∷
    judges (line_x "007\ton\tpass\t") (51 ∷ 1 ∷ 0 ∷ []) ∷
    judges (line_x "+1\ton\tpass\t") (51 ∷ 1 ∷ 0 ∷ []) ∷
    judges (line_x " 1\ton\tpass\t") (51 ∷ 1 ∷ 0 ∷ []) ∷
    judges (line_x "\ton\tpass\t") (51 ∷ 1 ∷ 0 ∷ []) ∷
    judges (line_x "999999999999999999999999999999\ton\tpass\t") (51 ∷ 1 ∷ 0 ∷ []) ∷
    judges (line_x "65535\ton\tpass\t") (0 ∷ 0 ∷ 1 ∷ []) ∷
    -- words
    judges (line_x "1\tON\tpass\t") (51 ∷ 1 ∷ 0 ∷ []) ∷
    judges (line_x "1\ton\tPass\t") (51 ∷ 1 ∷ 0 ∷ []) ∷
    judges (line_x "1\tof\tpass\t") (51 ∷ 1 ∷ 0 ∷ []) ∷
    -- rising, compared with the line before; in a line 51, 52, the text
    judges (line_x "5\ton\tpass\t" ++ line_x "5\ton\tpass\t") (52 ∷ 2 ∷ 0 ∷ []) ∷
    judges (line_x "5\ton\tpass\t" ++ text "4\ton\tpass\tF-SBID()\n") (52 ∷ 2 ∷ 0 ∷ []) ∷
    -- off rules are read
    judges (text "5\toff\tpass\tF-SBID()\n") (12 ∷ 1 ∷ 0 ∷ []) ∷
    -- line 65, whatever its form; lines before it first
    judges sixty_four (0 ∷ 0 ∷ 64 ∷ []) ∷
    judges (sixty_four ++ text "x") (53 ∷ 65 ∷ 0 ∷ []) ∷
    judges (text "x\n" ++ sixty_four) (51 ∷ 1 ∷ 0 ∷ []) ∷
    -- 50 whatever the book holds
    judges (replicate 65536 120) (51 ∷ 1 ∷ 0 ∷ []) ∷
    judges (replicate 65537 120) (50 ∷ 0 ∷ 0 ∷ []) ∷
    []

-- the open points' book of 144 bytes, a TCP packet with a payload, a UDP packet
unfoldable pub plant_book : List ℕ
plant_book = rule_line "3\toff\thold\t" ++ (line_x "7\ton\tpass\t" ++ rule_line "9\ton\thold\t")

unfoldable pub plant_packet : String → String → List ℕ
plant_packet length payload = hex "4500" ++ (hex length ++ (hex "12370000400600000a0a0affc0a800010001000200000000000000005000000000000000" ++ hex payload))

unfoldable pub udp_packet : List ℕ
udp_packet = hex "4500001e12370000401100000a0a0affc0a8000100010002000a00006158"

unfoldable pub book_decisions : List Example
book_decisions =
    decides_for plant_book (plant_packet "002e" "616158626258") no_fields (0 ∷ 0 ∷ 1 ∷ 7 ∷ []) ∷
    decides_for plant_book (plant_packet "002a" "6161") no_fields (0 ∷ 0 ∷ 0 ∷ 9 ∷ []) ∷
    decides_for plant_book udp_packet no_fields (0 ∷ 0 ∷ 0 ∷ 0 ∷ []) ∷
    -- a refused packet is held, whatever the rules
    decides_for plant_book [] no_fields (0 ∷ 0 ∷ 0 ∷ 0 ∷ []) ∷
    decides_for plant_book (plant_packet "002e" "616158626258") long_uri (0 ∷ 0 ∷ 0 ∷ 0 ∷ []) ∷
    -- a refused book is refused, whatever the packet
    decides_for (text "5\toff\tpass\tF-SBID()\n") [] no_fields (12 ∷ 1 ∷ 0 ∷ 0 ∷ []) ∷
    decides_for [] (plant_packet "002e" "616158626258") no_fields (0 ∷ 0 ∷ 0 ∷ 0 ∷ []) ∷
    []

-- a record with no field and no decoded buffer, the packet's length as said
unfoldable pub record_for : String → String → List ℕ → List ℕ
record_for direction length p = hex direction ++ (hex "00" ++ (hex length ++ (replicate 26 0 ++ p)))

-- the four packets above as a block, with room for five answers and for two: pass is 65536 more than the rule
unfoldable pub plant_block : List ℕ
plant_block =
    record_for "00" "002e" (plant_packet "002e" "616158626258")
    ++ (record_for "01" "002a" (plant_packet "002a" "6161") ++ (record_for "00" "001e" udp_packet ++ (record_for "00" "0000" [] ++ hex "0000")))

unfoldable pub in_block : List ℕ → List ℕ → Example
in_block out said =
    record { given = block_numbers document_limits (rules_in plant_book (loaded document_limits plant_book).rules) plant_block out; said = said }

unfoldable pub block_decisions : List Example
block_decisions = in_block (replicate 5 8) (65543 ∷ 9 ∷ 0 ∷ 0 ∷ 8 ∷ []) ∷ in_block (replicate 2 8) (65543 ∷ 9 ∷ []) ∷ in_block [] [] ∷ []
