-- Where 6 and 7 are placed, and what keeps its place beside them, by examples. Document 02, T-02. proofs/EveryNumber.antt has the statements.
use Rattle.std.specs.Prelude.{List, [], ◌∷◌}
use Rattle.definitions.specs.NumberCases.{Example, reads, reads_option}

-- number and place; the options of `reads_option` begin at 31
unfoldable pub form_places : List Example
form_places =
    -- a wrong name stays 5 at the dash; the `;` belongs to the option, and so do the spaces before it
    reads_option "--same_ip5;" (5 ∷ 31 ∷ []) ∷
    reads_option "--ip.id=5;" (6 ∷ 38 ∷ []) ∷
    reads_option "--ip_id 5 6;" (6 ∷ 41 ∷ []) ∷
    reads "F-SBID(--name \"n\";--protocol tcp )" (6 ∷ 33 ∷ []) ∷
    -- the text stops too soon, or a byte stands there with which the option can't go on
    reads "F-SBID(--name \"n\";--protocol 6;--ip_id 5" (6 ∷ 40 ∷ []) ∷
    reads "F-SBID(--name \"n\";--protocol 6;--ip_id 5)" (6 ∷ 40 ∷ []) ∷
    reads "F-SBID(--name \"n\";--protocol 6;--pattern \"abc)" (6 ∷ 46 ∷ []) ∷
    -- keywords: the first letter that goes on to none of the listed words
    reads "F-SBID(--name \"n\";--protocol ip;)" (6 ∷ 30 ∷ []) ∷
    reads "F-SBID(--name \"n\";--protocol tcp6;)" (6 ∷ 32 ∷ []) ∷
    reads_option "--flow bi_direction;" (6 ∷ 38 ∷ []) ∷
    reads_option "--pattern \"a\";--context packet_origin;" (6 ∷ 61 ∷ []) ∷
    reads_option "--data_size 5,ur;" (6 ∷ 47 ∷ []) ∷
    -- 6 before 7, though the number stands before the wrong byte
    reads_option "--ip_id 70000x;" (6 ∷ 44 ∷ []) ∷
    -- option by option
    reads_option "--ip_id;" (6 ∷ 38 ∷ []) ∷
    reads_option "--ip_id ;" (6 ∷ 39 ∷ []) ∷
    reads_option "--ip.id 5;" (6 ∷ 39 ∷ []) ∷
    reads_option "--ip.id & 5 6;" (6 ∷ 43 ∷ []) ∷
    reads_option "--ip.id ! 5;" (6 ∷ 40 ∷ []) ∷
    reads_option "--ip.id =< 5;" (6 ∷ 40 ∷ []) ∷
    reads_option "--ip.id < = 5;" (6 ∷ 41 ∷ []) ∷
    reads_option "--ip.id = 0x;" (6 ∷ 43 ∷ []) ∷
    reads_option "--ip_ttl =5;" (6 ∷ 40 ∷ []) ∷
    reads_option "--ip_ttl > 5;" (6 ∷ 41 ∷ []) ∷
    reads_option "--same_ip 5;" (6 ∷ 41 ∷ []) ∷
    reads_option "--src_addr 1.2.3;" (6 ∷ 47 ∷ []) ∷
    reads_option "--src_addr 1.2.3.4.5;" (6 ∷ 49 ∷ []) ∷
    reads_option "--src_addr 1.2.3.4:8;" (6 ∷ 49 ∷ []) ∷
    reads_option "--src_addr [];" (6 ∷ 43 ∷ []) ∷
    reads_option "--src_addr [1.2.3.4,];" (6 ∷ 51 ∷ []) ∷
    reads_option "--src_addr [!1.2.3.4];" (6 ∷ 43 ∷ []) ∷
    reads_option "--src_addr [1.2.3.4, 5.6.7.8];" (6 ∷ 51 ∷ []) ∷
    reads_option "--data_at 200, relative;" (6 ∷ 45 ∷ []) ∷
    reads_option "--pattern \"\";" (6 ∷ 42 ∷ []) ∷
    reads_option "--pattern \"|414|\";" (6 ∷ 46 ∷ []) ∷
    reads_option "--pattern \"|4 1|\";" (6 ∷ 44 ∷ []) ∷
    reads_option "--pattern \"||\";" (6 ∷ 43 ∷ []) ∷
    reads_option "--pattern \"| |\";" (6 ∷ 44 ∷ []) ∷
    reads_option "--pattern \"a:b\";" (6 ∷ 43 ∷ []) ∷
    reads_option "--pattern \"a;b\";" (6 ∷ 43 ∷ []) ∷
    reads_option "--pattern !!\"a\";" (6 ∷ 42 ∷ []) ∷
    reads_option "--pattern \"a\" x;" (6 ∷ 45 ∷ []) ∷
    reads_option "--pattern\"a\";" (6 ∷ 40 ∷ []) ∷
    reads_option "--pattern \"a\";--distance 5,reverse;" (6 ∷ 58 ∷ []) ∷
    reads_option "--pattern \"a\";--distance --5;" (6 ∷ 57 ∷ []) ∷
    reads "F-SBID(--name \"\";)" (6 ∷ 15 ∷ []) ∷
    []

unfoldable pub limit_places : List Example
limit_places =
    -- the first digit, a leading zero too; the first number beyond its limit; after `-` and `0x`; a name's opening quote
    reads_option "--ip_id 0070000;" (7 ∷ 39 ∷ []) ∷
    reads_option "--ip.id = 0x0010000;" (7 ∷ 43 ∷ []) ∷
    reads_option "--ip.id & 70000 = 80000;" (7 ∷ 41 ∷ []) ∷
    reads_option "--src_addr [1.2.3.256/33,300.1.1.1];" (7 ∷ 49 ∷ []) ∷
    reads_option "--src_addr 1.2.3.4/33;" (7 ∷ 50 ∷ []) ∷
    reads_option "--pattern \"a\";--distance -70000;" (7 ∷ 57 ∷ []) ∷
    reads_option "--ip.id & 0x1ffff = 0;" (7 ∷ 43 ∷ []) ∷
    reads "F-SBID(--name \"aaaaaaaaaaaaaaaaaaaaaaaaaaaaaaaaaaaaaaaaaaaaaaaaaaaaaaaaaaaaaaaaa\";)" (7 ∷ 14 ∷ []) ∷
    -- a ninth address is 11 at the dash, with a 256 among them 7 at the 256
    reads_option "--src_addr [1.1.1.1,1.1.1.2,1.1.1.3,1.1.1.4,1.1.1.5,1.1.1.6,1.1.1.7,1.1.1.8,1.1.1.9];" (11 ∷ 31 ∷ []) ∷
    reads_option "--src_addr [1.1.1.1,1.1.1.2,1.1.1.3,1.1.1.4,1.1.1.5,1.1.1.6,1.1.1.7,1.1.1.8,1.1.1.256];" (7 ∷ 113 ∷ []) ∷
    []
