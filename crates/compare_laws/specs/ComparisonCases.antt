-- Two books (document 02, T-10) by examples, those of the request and of its open points: what is written.
use Prim.Native.String.{String}
use Rattle.std.specs.Prelude.{ℕ, List, [], ◌∷◌, ◌++◌, replicate}
use Rattle.forms.specs.Bytes.{text}
use Rattle.definitions.specs.Limits.{document_limits}
use Rattle.definitions.specs.NumberCases.{Example}
use Rattle.definitions.specs.BookCases.{line_x}
use Rattle.compare_laws.specs.Comparisons.{compare_output}

unfoldable pub compares : List ℕ → List ℕ → List ℕ → Example
compares first second written = record { given = compare_output document_limits first second; said = written }

-- a rule of some options after its number, state and action
unfoldable pub line : String → String → List ℕ
line front options = text front ++ (text "F-SBID(--name \"n\";" ++ (text options ++ text ")\n"))

unfoldable pub comparison_cases : List Example
comparison_cases =
    -- the request's sample
    compares (line_x "1\ton\tpass\t" ++ line_x "2\ton\tpass\t") (line_x "2\toff\tpass\t" ++ line_x "3\ton\tpass\t")
    (text "old\t1\nchanged\t2\tstate\nnew\t3\n") ∷
    -- alike books and empty ones
    compares [] [] [] ∷
    compares (line_x "1\ton\tpass\t" ++ line_x "2\toff\thold\t") (line_x "1\ton\tpass\t" ++ line_x "2\toff\thold\t") [] ∷
    compares [] (line_x "7\ton\tpass\t") (text "new\t7\n") ∷
    -- a number decides which rules belong together, not the line; its order is not that of its digits
    compares (line_x "9\ton\tpass\t" ++ line_x "65535\ton\tpass\t") (line_x "10\ton\tpass\t" ++ line_x "65535\ton\tpass\t") (text "old\t9\nnew\t10\n") ∷
    -- spelling, spaces, leading zeros and ip_id make no other table
    compares (line "1\ton\tpass\t" "--protocol TCP;--ip_id 05;") (line "1\ton\tpass\t" " --protocol 6; --ip.id = 5; ") [] ∷
    -- all three, and two of them
    compares (line "2\ton\tpass\t" "--protocol 6;") (line "2\toff\thold\t" "--protocol 17;") (text "changed\t2\tstate,action,text\n") ∷
    compares (line "2\toff\tpass\t" "--protocol 6;") (line "2\toff\thold\t" "--protocol 17;") (text "changed\t2\taction,text\n") ∷
    compares (line "2\ton\tpass\t" "--protocol 6;") (line "2\toff\tpass\t" "--protocol 17;") (text "changed\t2\tstate,text\n") ∷
    compares (line "2\ton\tpass\t" "--protocol 6;") (line "2\toff\thold\t" "--protocol 6;") (text "changed\t2\tstate,action\n") ∷
    -- another table: order of tests, a pattern byte, an address, the sign of a distance
    compares (line "1\ton\tpass\t" "--protocol 6;--same_ip;--ip_tos 1;") (line "1\ton\tpass\t" "--protocol 6;--ip_tos 1;--same_ip;")
    (text "changed\t1\ttext\n") ∷
    compares (line "1\ton\tpass\t" "--protocol 6;--pattern \"ab\";") (line "1\ton\tpass\t" "--protocol 6;--pattern \"aB\";") (text "changed\t1\ttext\n") ∷
    compares (line "1\ton\tpass\t" "--protocol 6;--src_addr 1.2.3.4;") (line "1\ton\tpass\t" "--protocol 6;--src_addr 1.2.3.5;") (text "changed\t1\ttext\n") ∷
    compares (line "1\ton\tpass\t" "--protocol 6;--pattern \"a\";--distance 5;") (line "1\ton\tpass\t" "--protocol 6;--pattern \"a\";--distance -5;")
    (text "changed\t1\ttext\n") ∷
    -- a refused book: the first's refusal if both are
    compares (text "1\ton\tpass\n") [] (text "first\t51\t1\n") ∷
    compares (line_x "1\ton\tpass\t" ++ text "x\n") (text "5\toff\tpass\tF-SBID()\n") (text "first\t51\t2\n") ∷
    compares [] (text "5\toff\tpass\tF-SBID()\n") (text "second\t12\t1\n") ∷
    compares (line_x "1\ton\tpass\t") (replicate 65537 120) (text "second\t50\t0\n") ∷
    []
