use Rattle.std.proofs.Common.{arith}
use Rattle.mesa_lexer.proofs.Initials as I
use Rattle.mesa_lexer.proofs.vocabulary.words_from.Goals as goal

pub returns-in-65 : goal.returns-in-65
returns-in-65 c = I.from_a c.args.letter (omega arith)

pub returns-in-66 : goal.returns-in-66
returns-in-66 c = I.from_b c.args.letter (omega arith)

pub returns-in-67 : goal.returns-in-67
returns-in-67 c = I.from_c c.args.letter (omega arith)

pub returns-in-68 : goal.returns-in-68
returns-in-68 c = I.from_d c.args.letter (omega arith)

pub returns-in-69 : goal.returns-in-69
returns-in-69 c = I.from_e c.args.letter (omega arith)

pub returns-in-70 : goal.returns-in-70
returns-in-70 c = I.from_f c.args.letter (omega arith)

pub returns-in-71 : goal.returns-in-71
returns-in-71 c = I.from_g c.args.letter (omega arith)

pub returns-in-73 : goal.returns-in-73
returns-in-73 c = I.from_i c.args.letter (omega arith)

pub returns-in-74 : goal.returns-in-74
returns-in-74 c = I.from_j c.args.letter (omega arith)

pub returns-in-76 : goal.returns-in-76
returns-in-76 c = I.from_l c.args.letter (omega arith)

pub returns-in-77 : goal.returns-in-77
returns-in-77 c = I.from_m c.args.letter (omega arith)

pub returns-in-78 : goal.returns-in-78
returns-in-78 c = I.from_n c.args.letter (omega arith)

pub returns-in-79 : goal.returns-in-79
returns-in-79 c = I.from_o c.args.letter (omega arith)

pub returns-in-80 : goal.returns-in-80
returns-in-80 c = I.from_p c.args.letter (omega arith)

pub returns-in-82 : goal.returns-in-82
returns-in-82 c = I.from_r c.args.letter (omega arith)

pub returns-in-83 : goal.returns-in-83
returns-in-83 c = I.from_s c.args.letter (omega arith)

pub returns-in-84 : goal.returns-in-84
returns-in-84 c = I.from_t c.args.letter (omega arith)

pub returns-in-85 : goal.returns-in-85
returns-in-85 c = I.from_u c.args.letter (omega arith)

pub returns-in-87 : goal.returns-in-87
returns-in-87 c = I.from_w c.args.letter (omega arith)

pub returns-in_default : goal.returns-in_default
returns-in_default c = I.from_no_initial c.args.letter (omega arith) (omega arith) (omega arith) (omega arith) (omega arith) (omega arith) (omega arith) (omega arith) (omega arith) (omega arith) (omega arith) (omega arith) (omega arith) (omega arith) (omega arith) (omega arith) (omega arith) (omega arith) (omega arith)
