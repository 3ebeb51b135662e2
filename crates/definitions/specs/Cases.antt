-- The starred cases of document 01, section "On both sides of the line": one table. proofs/Starred.antt has the statement.
use Rattle.std.specs.Prelude.{Bool, true, false, ◌&&◌, List, [], ◌∷◌, ◌++◌, map, ℕ, ◌+◌, ◌-◌, ◌*◌, ◌/◌, ◌%◌, length, replicate, eqb, Option, Some, None}
use Prim.Native.String.{String}
use Rattle.definitions.specs.declared.packets.Direction.TheVariants.{Client}
use Rattle.definitions.specs.declared.packets.FieldMap.{FieldMap}
use Rattle.definitions.specs.declared.answers.Reading.{Reading}
use Rattle.definitions.specs.declared.answers.Query.{Query}
use Rattle.definitions.specs.declared.answers.Query.TheVariants.{First, Next}
use Rattle.definitions.specs.declared.packets.Span.{Span}
use Rattle.definitions.specs.Limits.{document_limits}
use Rattle.forms.specs.Bytes.{text}
use Rattle.definitions.specs.Lists.{same_bytes}
use Rattle.definitions.specs.Numbers.{digit_value}
use Rattle.definitions.specs.Starts.{start_at}
use Rattle.definitions.specs.Refusals.{read_number, read_place}
use Rattle.definitions.specs.Reading.{read}
use Rattle.definitions.specs.Answers.{placement_of}
use Rattle.definitions.specs.AnswerNumbers.{answer_numbers}
use Rattle.definitions.specs.Queries.{answers}

-- bytes written as pairs of hex digits
unfoldable pub pairs : List ℕ → List ℕ
pairs [] = []
pairs (a ∷ []) = []
pairs (a ∷ (b ∷ l)) = (digit_value a * 16 + digit_value b) ∷ pairs l

abbrev pub hex : String → List ℕ
hex s = pairs (text s)

unfoldable pub same_lists : List (List ℕ) → List (List ℕ) → Bool
same_lists [] [] = true
same_lists [] (y ∷ ys) = false
same_lists (x ∷ xs) [] = false
same_lists (x ∷ xs) (y ∷ ys) = same_bytes x y && same_lists xs ys

-- A signature text with the options of a case
unfoldable pub signature : String → List ℕ
signature s = text "F-SBID( --name \"t\"; --protocol tcp; " ++ (text s ++ text " )")

-- A TCP packet with a payload: id 0x1237, from 10.10.10.255
unfoldable pub packet_with : List ℕ → List ℕ
packet_with payload =
    hex "4500" ++ (((40 + length payload) / 256) ∷ ((40 + length payload) % 256)
    ∷ (hex "12370000400600000a0a0aff010203040000000000000000000000005000000000000000" ++ payload))

-- uri as said, no other field
unfoldable pub uri_only : Option Span → FieldMap
uri_only u = record { uri = u; header = None; body = None; banner = None; host = None; file = None }

-- A case: a text, a payload, uri, the starts held at first and the queries; the text's refusal and place (0 and 0: it reads), and the answers
pub record Case : Type 0 where
  pub source : List ℕ
  pub payload : List ℕ
  pub uri : Option Span
  pub held : List ℕ
  pub queries : List Query
  pub number : ℕ
  pub place : ℕ
  pub expected : List (List ℕ)

unfoldable pub numbers_of : Case → Reading → List (List ℕ)
numbers_of c r = map answer_numbers (answers r.table (packet_with c.payload) [] Client (uri_only c.uri) (placement_of (map start_at c.held)) c.queries)

unfoldable pub right_by : Case → Reading → Bool
right_by c r = eqb (read_number r.outcome) c.number && (eqb (read_place r.outcome) c.place && same_lists (numbers_of c r) c.expected)

unfoldable pub right : Case → Bool
right c = right_by c (read document_limits c.source)

-- the answers: found with the starts q, and none
unfoldable pub found : List ℕ → List ℕ
found q = 0 ∷ 1 ∷ length q ∷ (q ++ replicate (8 - length q) 0)

unfoldable pub none : List ℕ
none = replicate 11 0

-- a case on a payload, no field but packet; a text alone
unfoldable pub on_payload : String → String → List ℕ → List Query → List (List ℕ) → Case
on_payload p options held queries expected =
    record { source = signature options; payload = text p; uri = None; held = held; queries = queries; number = 0; place = 0; expected = expected }

unfoldable pub on_uri : Option Span → String → List Query → List (List ℕ) → Case
on_uri u options queries expected =
    record { source = signature options; payload = text "aaXbbX"; uri = u; held = []; queries = queries; number = 0; place = 0; expected = expected }

unfoldable pub on_text : String → ℕ → ℕ → Case
on_text s n p = record { source = text s; payload = []; uri = None; held = []; queries = []; number = n; place = p; expected = [] }

unfoldable pub cases : List Case
cases =
    -- X; b distance 0: (2,3), (2,4), then none. Next after (0,0) is (2,3); after (2,9) none
    on_payload "aaXbbX" "--pattern \"X\"; --pattern \"b\"; --distance 0;" [] (First ∷ Next ∷ Next ∷ []) (found (2 ∷ 3 ∷ []) ∷ found (2 ∷ 4 ∷ []) ∷ none ∷ []) ∷
    on_payload "aaXbbX" "--pattern \"X\"; --pattern \"b\"; --distance 0;" (0 ∷ 0 ∷ []) (Next ∷ []) (found (2 ∷ 3 ∷ []) ∷ []) ∷
    on_payload "aaXbbX" "--pattern \"X\"; --pattern \"b\"; --distance 0;" (2 ∷ 9 ∷ []) (Next ∷ []) (none ∷ []) ∷
    -- X; b distance 1, within 1: (2,4) only
    on_payload "aaXbbX" "--pattern \"X\"; --pattern \"b\"; --distance 1; --within 1;" [] (First ∷ Next ∷ []) (found (2 ∷ 4 ∷ []) ∷ none ∷ []) ∷
    -- X; `!"a"` distance -3, within 3: (5) only. With -200 and 200: none
    on_payload "aaXbbX" "--pattern \"X\"; --pattern !\"a\"; --distance -3; --within 3;" [] (First ∷ Next ∷ []) (found (5 ∷ []) ∷ none ∷ []) ∷
    on_payload "aaXbbX" "--pattern \"X\"; --pattern !\"a\"; --distance -200; --within 200;" [] (First ∷ []) (none ∷ []) ∷
    -- b distance 2,packet,reverse, within 1,packet: (4)
    on_payload "aaXbbX" "--pattern \"b\"; --distance 2,packet,reverse; --within 1,packet;" [] (First ∷ Next ∷ []) (found (4 ∷ []) ∷ none ∷ []) ∷
    -- data_at 6 holds, data_at 7 does not (document 02, T-04; document 01 had 5 and 6)
    on_payload "aaXbbX" "--data_at 6;" [] (First ∷ Next ∷ []) (found [] ∷ none ∷ []) ∷
    on_payload "aaXbbX" "--data_at 7;" [] (First ∷ []) (none ∷ []) ∷
    -- `!"q"`, context uri absent: none. Present with length 0: one empty placement
    on_uri None "--pattern !\"q\"; --context uri;" (First ∷ []) (none ∷ []) ∷
    on_uri (Some (record { start = 0; len = 0 })) "--pattern !\"q\"; --context uri;" (First ∷ Next ∷ []) (found [] ∷ none ∷ []) ∷
    -- "aa" in payload `aaa`: (0), (1)
    on_payload "aaa" "--pattern \"aa\";" [] (First ∷ Next ∷ Next ∷ []) (found (0 ∷ []) ∷ found (1 ∷ []) ∷ none ∷ []) ∷
    -- id 0x1237 meets `ip.id & 0xff = 0x37`
    on_payload "aaXbbX" "--ip.id & 0xff = 0x37;" [] (First ∷ []) (found [] ∷ []) ∷
    -- 10.10.10.255 is in 10.10.10.0/24
    on_payload "aaXbbX" "--src_addr 10.10.10.0/24;" [] (First ∷ []) (found [] ∷ []) ∷
    -- `F-SBID()` is 12 at 8; the empty text 1 at 0
    on_text "F-SBID()" 12 8 ∷
    on_text "" 1 0 ∷
    []

-- Section "Slips we have seen", a case for each: only the first place of an earlier pattern is kept; a negative window start is raised to 0
-- before within is added; a negated pattern is met because its field is missing
unfoldable pub known_mistakes : List Case
known_mistakes =
    on_payload "aaXbbX" "--pattern \"a\"; --pattern \"X\"; --distance 0; --within 1;" [] (First ∷ Next ∷ []) (found (1 ∷ 2 ∷ []) ∷ none ∷ []) ∷
    on_payload "aaXbbX" "--pattern \"a\"; --distance -1,packet; --within 2,packet;" [] (First ∷ Next ∷ []) (found (0 ∷ []) ∷ none ∷ []) ∷
    on_uri None "--pattern \"X\"; --pattern !\"q\"; --context uri;" (First ∷ []) (none ∷ []) ∷
    []

-- Document 02, T-04, from both starting points: after the first X of `aaXbbX` three bytes follow, after the second none; an empty payload has 0 bytes
unfoldable pub data_at_cases : List Case
data_at_cases =
    on_payload "aaXbbX" "--pattern \"X\"; --data_at 3,relative;" [] (First ∷ Next ∷ []) (found (2 ∷ []) ∷ none ∷ []) ∷
    on_payload "aaXbbX" "--pattern \"X\"; --data_at 0,relative;" [] (First ∷ Next ∷ Next ∷ []) (found (2 ∷ []) ∷ found (5 ∷ []) ∷ none ∷ []) ∷
    on_payload "aaXbbX" "--pattern \"X\"; --data_at 4,relative;" [] (First ∷ []) (none ∷ []) ∷
    on_payload "" "--data_at 0;" [] (First ∷ []) (found [] ∷ []) ∷
    on_payload "" "--data_at 1;" [] (First ∷ []) (none ∷ []) ∷
    []
