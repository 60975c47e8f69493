-- The grammar's side: the identifiers that are read of tokens within their limits are names, and the tokens behind are within their limits too.
use Rattle.std.proofs.Common.{zero, suc, List, [], ◌∷◌, All, Option, sym, subst, arith}
use Rattle.std.proofs.lemmas.List.Elements.{All-nil, All-cons, All-push}
use Rattle.mesa_lexer.specs.declared.token.Token.{Token}
use Rattle.mesa_lexer.specs.declared.word.Word.{Word}
use Rattle.cmesa_grammar.specs.Grammar as g
use Rattle.cmesa_grammar.specs.Plain as plain
use Rattle.cmesa_grammar.specs.Syntax as s
use Rattle.cmesa_grammar.specs.Syntax.{Identifier}
use Rattle.cmesa_grammar.specs.declared.syntax.ComponentFile.{ComponentFile}
use Rattle.cmesa_grammar.specs.declared.syntax.Config.{Config}
use Rattle.cmesa_grammar.specs.declared.syntax.Configuration.{Configuration}
use Rattle.cmesa_grammar.specs.declared.syntax.ConfigStatement.{ConfigStatement}
use Rattle.cmesa_grammar.proofs.Forms.{of_configuration, of_declare, of_instantiate}
use Rattle.written_trees.specs.Limits.{AreWithin}
use Rattle.written_trees.specs.Laws.{TokensAreWithin}
use Rattle.spelled_trees.specs.Laws.{ParsedNamesAreNames}
use Rattle.spelled_trees.specs.Names.{Named, MaybeNamed, ConfigurationNamed, StatementsNamed, HasNames}

-- what is said of a tree, and of the tokens behind it
abbrev Of : {X : Type 0} → (X → Type 0) → X → List Token → Type 0
Of P x rest = P x × AreWithin rest

-- ---- lists of names

one : (i : Identifier) → Named i → All Named (i ∷ [])
one i n = All-cons Named i [] n (All-nil Named)

names : {ts rest : List Token} {x : List Identifier} → g.IsNames ts x rest → AreWithin ts → Of (All Named) x rest
names (g.name {i = i}) h = (one i h.0, h.1)
names (g.names {all = all} {i = i} d) h = let a = names d h in (All-push Named all i a.0 (a.1.1).0, (a.1.1).1)

listed : {w : Word} {ts rest : List Token} {x : List Identifier} → g.IsListed w ts x rest → AreWithin ts → Of (All Named) x rest
listed g.unlisted h = (All-nil Named, h)
listed (g.listed d) h = names d h.1

records : {ts rest : List Token} {x : List Identifier} → g.IsRecords ts x rest → AreWithin ts → Of (All Named) x rest
records (g.record_list d) h = let a = names d h.1 in (a.0, a.1.1)
records (g.one_record {i = i}) h = (one i h.0, h.1)

target : {ts rest : List Token} {x : List Identifier} → g.IsTarget ts x rest → AreWithin ts → Of (All Named) x rest
target g.no_target h = (All-nil Named, h)
target (g.target d) h = let a = records d h in (a.0, a.1.1)

own_name : {ts rest : List Token} {x : Option Identifier} → g.IsNamed ts x rest → AreWithin ts → Of MaybeNamed x rest
own_name g.unnamed h = (tt, h)
own_name g.named h = (h.0, (h.1).1)

arguments : {ts rest : List Token} {x : List Identifier} → g.IsArguments ts x rest → AreWithin ts → Of (All Named) x rest
arguments g.no_arguments h = (All-nil Named, h)
arguments g.empty_arguments h = (All-nil Named, (h.1).1)
arguments (g.arguments d) h = let a = names d h.1 in (a.0, a.1.1)

-- ---- configurations

-- what a statement puts before named ones
abbrev Puts : ConfigStatement → Type 0
Puts x = (rest : s.Statements) → StatementsNamed rest → StatementsNamed (plain.statement x rest)

all_put : (xs : List ConfigStatement) → All Puts xs → StatementsNamed (plain.statements xs)
unfolding StatementsNamed
all_put [] h = tt
all_put (x ∷ xs) h = h zero x (omega arith) (plain.statements xs) (all_put xs (λ k d less. h (suc k) d (omega (arith, less))))

mutual
  unfolding ConfigurationNamed StatementsNamed

  configuration : {ts rest : List Token} {x : Configuration} → g.IsConfiguration ts x rest → AreWithin ts → Of ConfigurationNamed (plain.configuration x) rest
  configuration (g.configured {i = i} {imports = imports} {exports = exports} {control = control} {ss = ss} d e f b) h =
      let is = listed d ((h.1).1).1 in
      let es = listed e is.1 in
      let cs = listed f es.1 in
      let all = statements_in b cs.1.1 in (
        subst ConfigurationNamed (sym (of_configuration (g.heading i imports exports control) ss))
            (record { name = h.0; imports = is.0; exports = es.0; control = cs.0 }, all_put ss all.0),
        all.1,
      )

  statements_in : {ts rest : List Token} {x : List ConfigStatement} → g.IsBlock ts x rest → AreWithin ts → Of (All Puts) x rest
  statements_in (g.begin_end d) h = let a = body d h.1 in (a.0, a.1.1)
  statements_in (g.braces d) h = let a = body d h.1 in (a.0, a.1.1)

  body : {ts rest : List Token} {x : List ConfigStatement} → g.IsBody ts x rest → AreWithin ts → Of (All Puts) x rest
  body g.no_statements h = (All-nil Puts, h)
  body (g.open_statements d) h = statements d h
  body (g.closed_statements d) h = let a = statements d h in (a.0, a.1.1)

  statements : {ts rest : List Token} {x : List ConfigStatement} → g.IsStatements ts x rest → AreWithin ts → Of (All Puts) x rest
  statements (g.a_statement {x = x} d) h = let a = statement d h in (All-cons Puts x [] a.0 (All-nil Puts), a.1)
  statements (g.statements {all = all} {x = x} d f) h =
      let a = statements d h in
      let b = statement f a.1.1 in
      (All-push Puts all x a.0 b.0, b.1)

  statement : {ts rest : List Token} {x : ConfigStatement} → g.IsStatement ts x rest → AreWithin ts → Of Puts x rest
  statement (g.declared {x = x} d) h =
      let a = configuration d h in
      ((λ rest n. subst (λ (f : s.Statements → s.Statements). StatementsNamed (f rest)) (sym (of_declare x)) (a.0, n)), a.1)
  statement (g.instance {t = t} {records = rs} {arguments = ns} {i = i} {component = c} d e f) h =
      let a = target d h in
      let b = own_name e a.1 in
      let l = arguments f b.1.1 in (
        (λ rest n.
            subst (λ (f : s.Statements → s.Statements). StatementsNamed (f rest)) (sym (of_instantiate (g.instantiation t.place rs i c ns)))
            (record { records = a.0; name = b.0; component = b.1.0; arguments = l.0 }, n)),
        l.1,
      )

-- ---- whole texts

items : {ts rest : List Token} {x : List ComponentFile} → g.IsItems ts x rest → AreWithin ts → Of (All (λ (f : ComponentFile). Named f.name)) x rest
items (g.an_item {x = x} g.item) h = (All-cons (λ (f : ComponentFile). Named f.name) x [] h.0 (All-nil (λ (f : ComponentFile). Named f.name)), (((h.1).1).1).1)
items (g.items {all = all} {x = x} d g.item) h =
    let a = items d h in
    let b = a.1.1 in
    (All-push (λ (f : ComponentFile). Named f.name) all x a.0 b.0, (((b.1).1).1).1)

directory : {ts rest : List Token} {x : List ComponentFile} → g.IsDirectory ts x rest → AreWithin ts → Of (All (λ (f : ComponentFile). Named f.name)) x rest
directory g.no_directory h = (All-nil (λ (f : ComponentFile). Named f.name), h)
directory (g.directory d) h = let a = items d h.1 in (a.0, a.1.1)

config : {ts rest : List Token} {x : Config} → g.IsConfig ts x rest → AreWithin ts → HasNames (plain.plain x)
config (g.a_config d f) h = let a = directory d h in record { directory = a.0; outermost = (configuration f a.1).0 }

pub parsed_names_are_names : TokensAreWithin → ParsedNamesAreNames
parsed_names_are_names within text tokens x h p = config p.0 (within text tokens h)
