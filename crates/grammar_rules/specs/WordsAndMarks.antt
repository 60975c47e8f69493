-- Tokens of the module grammar that stand for one another or say something (Language Manual, appendix on syntax).
use Rattle.std.specs.Prelude.{Bool, true, false, Option, Some, None}
use Rattle.mesa_lexer.specs.declared.token.Kind.{Kind}
use Rattle.mesa_lexer.specs.declared.token.Kind.TheVariants as k
use Rattle.mesa_lexer.specs.declared.word.Word.TheVariants.{AndWord, ModWord, NotWord, OrWord, ProcWord, ProcedureWord, PublicWord, PrivateWord}
use Rattle.mesa_lexer.specs.declared.mark.Mark.TheVariants as m
pub use Rattle.token_cursor.specs.Grammars.{spelled}
use Rattle.syntax_trees.specs.declared.syntax.Operator.{Operator}
use Rattle.syntax_trees.specs.declared.syntax.Operator.TheVariants as o
use Rattle.mesa_base.specs.declared.relation.Relation.{Relation}
use Rattle.mesa_base.specs.declared.relation.Relation.TheVariants as r
use Rattle.syntax_trees.specs.declared.syntax.Sign.{Sign}
use Rattle.syntax_trees.specs.declared.syntax.Sign.TheVariants.{Positive, Negative}
use Rattle.syntax_trees.specs.declared.syntax.Access.{Access}
use Rattle.syntax_trees.specs.declared.syntax.Access.TheVariants.{Public, Private}

abbrev pub disjoining : Kind → Option Operator
disjoining (k.Word OrWord) = Some o.Or
disjoining _ = None

abbrev pub conjoining : Kind → Option Operator
conjoining (k.Word AndWord) = Some o.And
conjoining _ = None

abbrev pub adding : Kind → Option Operator
adding (k.Mark m.Plus) = Some o.Add
adding (k.Mark m.Minus) = Some o.Subtract
adding _ = None

abbrev pub multiplying : Kind → Option Operator
multiplying (k.Mark m.Star) = Some o.Multiply
multiplying (k.Mark m.Slash) = Some o.Divide
multiplying (k.Word ModWord) = Some o.Modulo
multiplying _ = None

abbrev pub signing : Kind → Option Sign
signing (k.Mark m.Plus) = Some Positive
signing (k.Mark m.Minus) = Some Negative
signing _ = None

-- RelOp = "=" | "#" | "<" | "<=" | ">" | ">="
abbrev pub relating : Kind → Option Relation
relating (k.Mark m.Equal) = Some r.Equal
relating (k.Mark m.Sharp) = Some r.NotEqual
relating (k.Mark m.Less) = Some r.Less
relating (k.Mark m.AtMost) = Some r.AtMost
relating (k.Mark m.Greater) = Some r.Greater
relating (k.Mark m.AtLeast) = Some r.AtLeast
relating _ = None

-- NotWord = "~" | NOT
abbrev pub negating : Kind → Option (Unit {0})
negating (k.Mark m.Tilde) = Some tt
negating (k.Word NotWord) = Some tt
negating _ = None

-- a bracket before an interval, and whether that end is open
abbrev pub opening : Kind → Option Bool
opening (k.Mark m.LeftBracket) = Some false
opening (k.Mark m.LeftParenthesis) = Some true
opening _ = None

abbrev pub closing : Kind → Option Bool
closing (k.Mark m.RightBracket) = Some false
closing (k.Mark m.RightParenthesis) = Some true
closing _ = None

-- PROC is PROCEDURE
abbrev pub procedure_word : Kind → Option (Unit {0})
procedure_word (k.Word ProcWord) = Some tt
procedure_word (k.Word ProcedureWord) = Some tt
procedure_word _ = None

-- Access = PUBLIC | PRIVATE
abbrev pub accessing : Kind → Option Access
accessing (k.Word PublicWord) = Some Public
accessing (k.Word PrivateWord) = Some Private
accessing _ = None
