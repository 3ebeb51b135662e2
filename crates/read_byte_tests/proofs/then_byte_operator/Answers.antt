use Rattle.read_byte_tests.proofs.FlagWords.{operator_reads}
use Rattle.read_byte_tests.proofs.then_byte_operator.Goals as goal

pub returns : goal.returns
returns c =
    let a = c.args in
    operator_reads a.s.now a.c (rw (c.sign_of.ensures, c.operator_next-operator.ensures) at c.then_literal_as.ensures)
