-- Replays (document 02, T-05) by examples, those of its open points: what is written for a book and a trace.
use Rattle.std.specs.Prelude.{ℕ, List, [], ◌∷◌, ◌++◌}
use Rattle.forms.specs.Bytes.{text}
use Rattle.definitions.specs.Limits.{document_limits}
use Rattle.definitions.specs.NumberCases.{Example}
use Rattle.definitions.specs.BookCases.{plant_book}
use Rattle.replay_laws.specs.Replays.{replay_output}

unfoldable pub replays : List ℕ → List ℕ → List ℕ → Example
replays book trace written = record { given = replay_output document_limits book trace; said = written }

-- a TCP packet with payload `aaXbbX`, in small letters and in capitals
unfoldable pub packet_hex : List ℕ
packet_hex = text "4500002e12370000400600000a0a0affc0a800010001000200000000000000005000000000000000616158626258"

unfoldable pub packet_capitals : List ℕ
packet_capitals = text "4500002E12370000400600000A0A0AFFC0A800010001000200000000000000005000000000000000616158626258"

unfoldable pub replay_cases : List Example
replay_cases =
    -- the empty trace; an LF alone
    replays plant_book [] (text "total\t0\t0\t0\n") ∷
    replays plant_book (text "\n") (text "1\tbad\t0\ntotal\t0\t0\t1\n") ∷
    -- the sample
    replays plant_book
    (text "client\t" ++ (packet_hex ++ text "\t-\t-\nserver\t-\t-\t-\nclient\n"))
    (text "1\tpass\t7\n2\thold\t0\n3\tbad\t0\ntotal\t1\t1\t1\n") ∷
    -- the last line without LF counts
    replays plant_book (text "client\t-\t-\t-") (text "1\thold\t0\ntotal\t0\t1\t0\n") ∷
    -- either case of hex digits, and leading zeros; a map that is past the decoded buffer, which refuses the packet (35): it is held by no rule
    replays plant_book
    (text "client\t" ++ (packet_capitals ++ (text "\turi:00+001\t61\nclient\t" ++ (packet_hex ++ text "\turi:0+1\t-\nclient\t-\turi:65535+65535\t-\n"))))
    (text "1\tpass\t7\n2\thold\t0\n3\thold\t0\ntotal\t1\t2\t0\n") ∷
    -- columns: four, none of them empty; words and names exact
    replays plant_book
    (text "client\t-\t\t-\nclient\t-\t-\t-\t\nClient\t-\t-\t-\nclient\t-\tURI:0+1\t61\nclient\t-\tpacket:0+1\t-\n")
    (text "1\tbad\t0\n2\tbad\t0\n3\tbad\t0\n4\tbad\t0\n5\tbad\t0\ntotal\t0\t0\t5\n") ∷
    -- maps: no empty entry, no `-` beside others, numbers to 65535, each field once
    replays plant_book
    (text "client\t-\turi:0+1,\t61\nclient\t-\t-,uri:0+1\t61\nclient\t-\turi:65536+0\t-\nclient\t-\turi:0+1,uri:0+1\t61\n")
    (text "1\tbad\t0\n2\tbad\t0\n3\tbad\t0\n4\tbad\t0\ntotal\t0\t0\t4\n") ∷
    -- a refused book gives its line alone
    replays (text "1\ton\tpass\n") (text "client\n") (text "book\t51\t1\n") ∷
    replays (text "5\toff\tpass\tF-SBID()\n") [] (text "book\t12\t1\n") ∷
    []
