-- The signs and operands of the code as those of the grammar.
use Rattle.grammar.specs.Signs as signs
use Rattle.grammar.specs.Numbering as numbers
use Rattle.rule.specs.declared.sign.Sign.{Sign}
use Rattle.rule.specs.declared.sign.Sign.TheVariants.{Plus, Minus}
use Rattle.rule.specs.declared.operands.Operands.{Operands}
use Rattle.rule.specs.declared.operands.Operands.TheVariants as the_operands

abbrev pub signing : Sign → signs.Sign
signing Plus = signs.plus
signing Minus = signs.minus

abbrev pub operanding : Operands → numbers.Operands
operanding the_operands.None = numbers.no_operand
operanding (the_operands.One i) = numbers.operand i
operanding (the_operands.Two i j) = numbers.operands i j
