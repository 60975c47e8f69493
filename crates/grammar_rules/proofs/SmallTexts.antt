-- Small texts and their whole trees, and what is shown of them: the parser functions give each its tree, and hence the tokens have that
-- tree and no other answer. A token's place has its number.
use Rattle.std.proofs.Common.{◌≡◌, ℕ, suc, List, [], ◌∷◌, ◌++◌, map, None, ap}
use Rattle.std.specs.Prelude.{codes}
use Prim.Native.String.{String}
use Rattle.mesa_base.specs.declared.place.Place.{Place}
use Rattle.mesa_base.specs.declared.identifier.Identifier.{Identifier}
use Rattle.mesa_lexer.specs.declared.token.Token.{Token}
use Rattle.mesa_lexer.specs.declared.token.Kind.{Kind}
use Rattle.mesa_lexer.specs.declared.token.Kind.TheVariants as k
use Rattle.mesa_lexer.specs.declared.word.Word.TheVariants.{BeginWord, EndWord, ProgramWord}
use Rattle.mesa_lexer.specs.declared.mark.Mark.TheVariants.{Arrow, Colon, Dot, Equal, Semicolon}
use Rattle.token_cursor.specs.Grammars.{token}
use Rattle.token_cursor.specs.Parsing.{Out, Got}
use Rattle.syntax_trees.specs.declared.syntax.TypeExp.{TypeExp}
use Rattle.syntax_trees.specs.declared.syntax.TypeExp.TheVariants as t
use Rattle.syntax_trees.specs.declared.syntax.Expr.{Expr}
use Rattle.syntax_trees.specs.declared.syntax.Expr.TheVariants as e
use Rattle.syntax_trees.specs.declared.syntax.Statement.{Statement}
use Rattle.syntax_trees.specs.declared.syntax.Statement.TheVariants as s
use Rattle.syntax_trees.specs.declared.syntax.PlainItem.TheVariants.{Variable}
use Rattle.syntax_trees.specs.declared.syntax.Declared.TheVariants as d
use Rattle.syntax_trees.specs.declared.syntax.Declaration.{Declaration}
use Rattle.syntax_trees.specs.declared.syntax.ModuleKind.TheVariants.{Program}
use Rattle.syntax_trees.specs.declared.syntax.Module.{Module}
use Rattle.grammar_rules.specs.Grammar as g
use Rattle.grammar_rules.specs.Modules as m
use Rattle.grammar_rules.specs.Answer.{Parses}
use Rattle.grammar_rules.specs.ReadModules as r
use Rattle.grammar_rules.proofs.Whole.{found}

-- the place of the token with this number
abbrev pub at : ℕ → Place
at n = record { token = n; line = 1; column = suc n }

abbrev pub id : String → ℕ → Identifier
id spelling n = record { name = codes spelling; place = at n }

abbrev pub name : String → Kind
name spelling = k.Name (codes spelling)

abbrev pub text : String → Kind
text bytes = k.Text (codes bytes)

-- the type of this name alone
abbrev pub named : String → ℕ → TypeExp
named spelling n = t.Called (g.qualified (id spelling n) None)

-- the expression of this name alone
abbrev pub variable : String → ℕ → Expr
variable spelling n = e.Reference (g.left (id spelling n) [])

abbrev pub numbered : ℕ → List Kind → List Token
numbered n [] = []
numbered n (kind ∷ kinds) = token kind (at n) ∷ numbered (suc n) kinds

-- the kinds of a text's tokens, and the text's tree
pub record Example : Type 0 where
  pub kinds : List Kind
  pub tree : Module

-- the tree of a module M with these declarations and statements alone
abbrev pub in_body : List Declaration → List Statement → Module
in_body ds ss = m.module_of [] (id "M" 0) (Program (at 2) [] [] [] (m.inner None ds ss []))

-- M: PROGRAM = BEGIN .. END.
abbrev pub framed : List Kind → List Kind
framed kinds = name "M" ∷ k.Mark Colon ∷ k.Word ProgramWord ∷ k.Mark Equal ∷ k.Word BeginWord ∷ (kinds ++ k.Word EndWord ∷ k.Mark Dot ∷ [])

-- M: PROGRAM = BEGIN a: type; END.
abbrev pub a_type : List Kind → TypeExp → Example
a_type kinds x = record {
  kinds = framed (name "a" ∷ k.Mark Colon ∷ (kinds ++ k.Mark Semicolon ∷ []));
  tree = in_body (m.declaration (id "a" 5 ∷ []) None (d.Data (Variable x)) ∷ []) [];
}

-- M: PROGRAM = BEGIN a ← expression END.
abbrev pub a_value : List Kind → Expr → Example
a_value kinds x = record { kinds = framed (name "a" ∷ k.Mark Arrow ∷ kinds); tree = in_body [] (s.Assign (g.left (id "a" 5) []) x ∷ []) }

-- M: PROGRAM = BEGIN statements END.
abbrev pub statements : List Kind → List Statement → Example
statements kinds ss = record { kinds = framed kinds; tree = in_body [] ss }

abbrev pub whole : List Kind → Module → Example
whole kinds x = record { kinds = kinds; tree = x }

-- ---- what is shown of each

abbrev pub Each : (Example → Type 0) → List Example → Type 0
Each P [] = Unit {0}
Each P (x ∷ xs) = P x × Each P xs

-- the parser functions give these trees of these texts, one by one
abbrev pub Read : List Example → Type 0
Read xs = map (λ x. r.text (numbered 0 x.kinds)) xs ≡ map (λ x. Got x.tree []) xs

abbrev pub Has : Example → Type 0
Has x = Parses (numbered 0 x.kinds) x.tree

abbrev first : Out Module → List (Out Module) → Out Module
first out [] = out
first _ (out ∷ _) = out

abbrev others : List (Out Module) → List (Out Module)
others [] = []
others (_ ∷ outs) = outs

pub hence : (xs : List Example) → Read xs → Each Has xs
hence [] h = tt
hence (x ∷ xs) h = ((found (numbered 0 x.kinds) [] x.tree (ap (first (Got x.tree [])) h)).1, hence xs (ap others h))
