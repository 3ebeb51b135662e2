-- byte_test by examples: what its texts are written as, where wrong ones are refused, and when it holds. Document 02, T-01. proofs/ByteTestCases.antt has the
-- statements.
use Rattle.std.specs.Prelude.{List, [], ◌∷◌}
use Rattle.definitions.specs.declared.answers.Query.TheVariants.{First, Next}
use Rattle.definitions.specs.Cases.{Case, found, none, on_payload}
use Rattle.definitions.specs.NumberCases.{Example, reads_option, rewrites}

unfoldable pub byte_test_texts : List Example
byte_test_texts =
    -- the value in decimal; `little` is kept with one byte, too
    rewrites " --byte_test 2,>,0X12,3;" " --byte_test 2,>,18,3;" ∷
    rewrites " --BYTE_TEST  02,>,0018,003,RELATIVE,Little ;" " --byte_test 2,>,18,3,relative,little;" ∷
    rewrites " --byte_test 4,!,0xffffffff,65535;" " --byte_test 4,!,4294967295,65535;" ∷
    rewrites " --byte_test 1,=,5,0,little;" " --byte_test 1,=,5,0,little;" ∷
    rewrites " --byte_test 1,<,256,0,relative;" " --byte_test 1,<,256,0,relative;" ∷
    -- the longest run is the name; no spaces inside; `,relative` before `,little`, each once
    reads_option "--byte_test2,>,1,0;" (5 ∷ 31 ∷ []) ∷
    reads_option "--byte_test;" (6 ∷ 42 ∷ []) ∷
    reads_option "--byte_test 2, >,1,0;" (6 ∷ 45 ∷ []) ∷
    reads_option "--byte_test 2,>,1,0,little,relative;" (6 ∷ 57 ∷ []) ∷
    reads_option "--byte_test 2,>,1,0,relative,relative;" (6 ∷ 60 ∷ []) ∷
    -- hex in the value alone
    reads_option "--byte_test 0x2,>,1,4;" (6 ∷ 44 ∷ []) ∷
    reads_option "--byte_test 2,>,0x,0;" (6 ∷ 49 ∷ []) ∷
    reads_option "--byte_test 2,>,1,0x4;" (6 ∷ 50 ∷ []) ∷
    -- other counts, operators and values of the guides
    reads_option "--byte_test *,>,1,0;" (6 ∷ 43 ∷ []) ∷
    reads_option "--byte_test 2,>=,1,0;" (6 ∷ 46 ∷ []) ∷
    reads_option "--byte_test 2,&,1,0;" (6 ∷ 45 ∷ []) ∷
    reads_option "--byte_test 4,>,$PKT_SIZE,4,relative;" (6 ∷ 47 ∷ []) ∷
    reads_option "--byte_test 3,>,1;" (6 ∷ 48 ∷ []) ∷
    -- numbers beyond their limit: the first of them, a byte count too
    reads_option "--byte_test 0,>,1,0;" (7 ∷ 43 ∷ []) ∷
    reads_option "--byte_test 3,>,1,0;" (7 ∷ 43 ∷ []) ∷
    reads_option "--byte_test 3,>,4294967296,65536;" (7 ∷ 43 ∷ []) ∷
    reads_option "--byte_test 2,>,4294967296,0;" (7 ∷ 47 ∷ []) ∷
    reads_option "--byte_test 2,>,0x100000000,0;" (7 ∷ 49 ∷ []) ∷
    reads_option "--byte_test 2,>,1,65536;" (7 ∷ 49 ∷ []) ∷
    []

-- on the payload `aaXbbX`, bytes 61 61 58 62 62 58
unfoldable pub byte_test_cases : List Case
byte_test_cases =
    -- big end first, and little
    on_payload "aaXbbX" "--byte_test 2,=,0x6258,4;" [] (First ∷ Next ∷ []) (found [] ∷ none ∷ []) ∷
    on_payload "aaXbbX" "--byte_test 2,=,0x5862,4,little;" [] (First ∷ []) (found [] ∷ []) ∷
    on_payload "aaXbbX" "--byte_test 4,=,0x61615862,0;" [] (First ∷ []) (found [] ∷ []) ∷
    on_payload "aaXbbX" "--byte_test 4,=,0x62586161,0,little;" [] (First ∷ []) (found [] ∷ []) ∷
    -- up to the last byte, and past the end, where `!` doesn't hold either
    on_payload "aaXbbX" "--byte_test 1,=,0x58,5;" [] (First ∷ []) (found [] ∷ []) ∷
    on_payload "aaXbbX" "--byte_test 4,=,0x58626258,2;" [] (First ∷ []) (found [] ∷ []) ∷
    on_payload "aaXbbX" "--byte_test 4,>,0,3;" [] (First ∷ []) (none ∷ []) ∷
    on_payload "aaXbbX" "--byte_test 2,>,0,5;" [] (First ∷ []) (none ∷ []) ∷
    on_payload "aaXbbX" "--byte_test 1,!,1,6;" [] (First ∷ []) (none ∷ []) ∷
    -- values that the bytes can't say
    on_payload "aaXbbX" "--byte_test 1,<,256,0;" [] (First ∷ []) (found [] ∷ []) ∷
    on_payload "aaXbbX" "--byte_test 1,=,256,0;" [] (First ∷ []) (none ∷ []) ∷
    -- from the end of the last positive pattern before, from the payload's start if there is none
    on_payload "aaXbbX" "--pattern \"X\"; --byte_test 1,=,0x62,0,relative;" [] (First ∷ Next ∷ []) (found (2 ∷ []) ∷ none ∷ []) ∷
    on_payload "aaXbbX" "--pattern !\"q\"; --byte_test 1,=,0x61,0,relative;" [] (First ∷ []) (found [] ∷ []) ∷
    []
