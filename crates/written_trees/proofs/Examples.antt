-- Each place where an identifier may stand is looked at: a tree that has names has one there.
use Rattle.std.specs.Prelude.{List, [], ◌∷◌, Option, Some, None, false, codes, All}
use Rattle.std.proofs.lemmas.List.Elements.{All-head}
use Rattle.mesa_base.specs.declared.place.Place.{Place}
use Rattle.mesa_base.specs.declared.identifier.Identifier.{Identifier}
use Rattle.syntax_trees.specs.declared.syntax.QualifiedName.{QualifiedName}
use Rattle.syntax_trees.specs.declared.syntax.Labels.TheVariants.{Signals}
use Rattle.syntax_trees.specs.declared.syntax.RepeatLabels.TheVariants as repeat
use Rattle.syntax_trees.specs.declared.syntax.TypeBase.TheVariants.{OfName}
use Rattle.syntax_trees.specs.declared.syntax.DirectoryItem.{DirectoryItem}
use Rattle.syntax_trees.specs.Syntax as s
use Rattle.check_rules.specs.TreeNames.{Named, QualifiedNamed, LabelsNamed, RepeatNamed, BaseNamed, DirectoryItemNamed, DeclarationNamed, DefinitionNamed, StatementNamed, InnerNamed, KindNamed, HasNames}

-- ---- small trees

abbrev here : Place
here = record { token = 0; line = 1; column = 1 }

abbrev fine : Identifier
fine = record { name = codes "x"; place = here }

abbrev alone : Identifier → QualifiedName
alone x = record { first = x; second = None }

abbrev behind_dot : Identifier → QualifiedName
behind_dot x = record { first = fine; second = Some x }

abbrev left : Identifier → s.Left
left x = s.LeftOf x s.NoSuffix

abbrev value : s.Expr
value = s.Reference (left fine)

abbrev interval : s.Interval
interval = s.Between here false value value false

abbrev module_of : List DirectoryItem → Identifier → s.ModuleKind → s.Module
module_of ds x k = record { directory = ds; name = x; kind = k }

abbrev item : Identifier → Option (List Identifier) → DirectoryItem
item x used = record { name = x; file_place = here; file = []; used = used }

abbrev body : List s.Declaration → s.Statements → s.Inner
body ds ss = record { enable = s.NoPhrase; declarations = ds; statements = ss; exits = s.NoExits }

abbrev program : List Identifier → List Identifier → List Identifier → s.Module
program imports exports opens = module_of [] fine (s.Program here imports exports opens (body [] s.NoStatements))

abbrev in_statement : s.Statement → s.Module
in_statement x = module_of [] fine (s.Program here [] [] [] (body [] (s.AndStatement x s.NoStatements)))

abbrev block : s.Phrase → s.Locals → s.Exits → s.Statement
block ph ls es = s.Nested (s.BlockOf here ph ls s.NoStatements es)

abbrev in_type : s.TypeExp → s.Statement
in_type e = block s.NoPhrase (s.AndLocal (fine ∷ []) (s.Variable e) s.NoLocals) s.NoExits

abbrev with_suffix : (s.Suffixes → s.Suffixes) → s.Statement
with_suffix f = s.Call (s.LeftOf fine (f s.NoSuffix))

abbrev loop : s.Count → s.Repeats → s.Statement
loop n rs = s.Loop (s.ControlOf n s.Always) here s.NoPhrase s.NoStatements rs

-- ---- outside of statements

abbrev LooksAt : (Identifier → s.Module) → Type 0
LooksAt place = (x : Identifier) → HasNames (place x) → Named x

-- the one of a list
one : (x : Identifier) → All Named (x ∷ []) → Named x
one x h = All-head Named x [] h

in_modules : LooksAt (λ x. module_of [] x (s.Interface here [] []))
    × LooksAt (λ x. module_of (item x None ∷ []) fine (s.Interface here [] []))
    × LooksAt (λ x. module_of (item fine (Some (x ∷ [])) ∷ []) fine (s.Interface here [] []))
    × LooksAt (λ x. module_of [] fine (s.Interface here (x ∷ []) []))
    × LooksAt (λ x. module_of [] fine (s.Interface here [] (record { names = x ∷ []; defined = s.ErrorItem None } ∷ [])))
    × LooksAt (λ x. program (x ∷ []) [] [])
    × LooksAt (λ x. program [] (x ∷ []) [])
    × LooksAt (λ x. program [] [] (x ∷ []))
    × LooksAt (λ x. module_of [] fine (s.Program here [] [] [] (body (record { names = x ∷ []; access = None; declared = s.Error None } ∷ []) s.NoStatements)))
unfolding HasNames KindNamed InnerNamed DeclarationNamed DefinitionNamed DirectoryItemNamed
in_modules = (
  λ x h. h.1,
  λ x h. (All-head DirectoryItemNamed (item x None) [] h.0).0,
  λ x h. one x (All-head DirectoryItemNamed (item fine (Some (x ∷ []))) [] h.0).1,
  λ x h. one x (h.2).0,
  λ x h. one x (All-head DefinitionNamed (record { names = x ∷ []; defined = s.ErrorItem None }) [] (h.2).1).0,
  λ x h. one x (h.2).0,
  λ x h. one x (h.2).1,
  λ x h. one x (h.2).2,
  λ x h. one x (All-head DeclarationNamed (record { names = x ∷ []; access = None; declared = s.Error None }) [] ((h.2).3).1).0,
)

-- ---- inside of statements

abbrev Looks : (Identifier → s.Statement) → Type 0
Looks place = LooksAt (λ x. in_statement (place x))

at_statement : (y : s.Statement) → HasNames (in_statement y) → StatementNamed y
unfolding HasNames KindNamed InnerNamed StatementNamed
at_statement y h = (((h.2).3).2).0

in_statements : Looks (λ x. s.Goto here x)
    × Looks (λ x. s.Call (left x))
    × Looks (λ x. with_suffix (s.Field x))
    × Looks (λ x. with_suffix (s.Applied (s.BracketsOf here (s.ByKey (s.AndKeyedExpr x value s.NoKeyedExprs)) s.NoPhrase)))
    × Looks (λ x. s.RaiseStatement (s.SignalRaise here (alone x) s.NoBrackets))
    × Looks (λ x. s.RaiseStatement (s.ErrorRaise here (behind_dot x) s.NoBrackets))
    × Looks (λ x. s.Extract here (s.TargetsByKey (s.AndKeyedLeft x (left fine) s.NoKeyedLefts)) value)
    × Looks (λ x. loop (s.For here x false interval) s.NoRepeats)
    × Looks (λ x. loop s.NoCount (s.AndRepeat (repeat.Named (x ∷ [])) (s.Null here) s.NoRepeats))
    × Looks (λ x. block (s.Catch here (s.AndArm (Signals (alone x ∷ [])) (s.Null here) s.NoArms)) s.NoLocals s.NoExits)
    × Looks (λ x. block s.NoPhrase s.NoLocals (s.AndExit (x ∷ []) (s.Null here) s.NoExits))
    × Looks (λ x. block s.NoPhrase (s.AndLocal (x ∷ []) (s.Variable (s.Integer here)) s.NoLocals) s.NoExits)
    × Looks (λ x. in_type (s.Called (alone x)))
    × Looks (λ x. in_type (s.Enumeration here (x ∷ [])))
    × Looks (λ x. in_type (s.Subrange (OfName (alone x)) interval))
    × Looks (λ x. in_type (s.Record here (s.WithNames (s.AndFields (x ∷ []) (s.Integer here) s.NoFields))))
unfolding StatementNamed QualifiedNamed LabelsNamed RepeatNamed BaseNamed
in_statements = (
  λ x h. at_statement _ h,
  λ x h. (at_statement _ h).0,
  λ x h. ((at_statement _ h).1).0,
  λ x h. (((at_statement _ h).1).0).0.0,
  λ x h. ((at_statement _ h).0).0,
  λ x h. ((at_statement _ h).0).1,
  λ x h. ((at_statement _ h).0).0,
  λ x h. (((at_statement _ h).0).0).0,
  λ x h. one x ((at_statement _ h).3).0,
  λ x h. (All-head QualifiedNamed (alone x) [] ((at_statement _ h).0).0).0,
  λ x h. one x ((at_statement _ h).3).0,
  λ x h. one x ((at_statement _ h).1).0,
  λ x h. (((at_statement _ h).1).1).0,
  λ x h. one x ((at_statement _ h).1).1,
  λ x h. ((((at_statement _ h).1).1).0).0,
  λ x h. one x (((at_statement _ h).1).1).0,
)
