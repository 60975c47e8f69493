-- Names, labels and the words before a tree: what is read of them is named, and the tokens behind are within their limits.
use Rattle.std.proofs.Common.{◌≢◌, Bool, List, [], ◌∷◌, All}
use Rattle.std.proofs.lemmas.List.Elements.{All-nil, All-cons, All-push}
use Rattle.mesa_lexer.specs.declared.token.Token.{Token}
use Rattle.mesa_base.specs.declared.identifier.Identifier.{Identifier}
use Rattle.syntax_trees.specs.declared.syntax.QualifiedName.{QualifiedName}
use Rattle.syntax_trees.specs.declared.syntax.Labels.{Labels}
use Rattle.syntax_trees.specs.declared.syntax.RepeatLabels.{RepeatLabels}
use Rattle.syntax_trees.specs.declared.syntax.TypeBase.{TypeBase}
use Rattle.grammar_rules.specs.Grammar as g
use Rattle.check_rules.specs.Written.{LabelsWritten, RepeatWritten}
use Rattle.written_trees.specs.Limits.{AreWithin}
use Rattle.check_rules.specs.TreeNames.{Named, QualifiedNamed, LabelsNamed, RepeatNamed, BaseNamed}
use Rattle.written_trees.proofs.Lists.{Both, IsSome, not_empty}

pub named : (i : Identifier) → Named i → All Named (i ∷ [])
named i n = All-cons Named i [] n (All-nil Named)

pub names : {ts rest : List Token} {x : List Identifier} → g.IsNames ts x rest → AreWithin ts → Both IsSome (All Named) x (AreWithin rest)
names (g.name {i = i}) h = (not_empty [] i, named i h.0, h.1)
names (g.names {all = all} {i = i} d) h =
    let a = names d h in
    (not_empty all i, All-push Named all i a.1 (a.2.1).0, (a.2.1).1)

pub qname : {ts rest : List Token} {x : QualifiedName} → g.IsQName ts x rest → AreWithin ts → QualifiedNamed x × AreWithin rest
unfolding QualifiedNamed
qname g.bare h = ((h.0, tt), h.1)
qname g.dotted h = ((h.0, (h.1.1).0), (h.1.1).1)

qnames : {ts rest : List Token} {x : List QualifiedName} → g.IsQNames ts x rest → AreWithin ts → (x ≢ []) × All QualifiedNamed x × AreWithin rest
qnames (g.qname {x = x} d) h = let a = qname d h in (not_empty [] x, All-cons QualifiedNamed x [] a.0 (All-nil QualifiedNamed), a.1)
qnames (g.qnames {all = all} {x = x} d f) h =
    let a = qnames d h in
    let b = qname f a.2.1 in
    (not_empty all x, All-push QualifiedNamed all x a.1 b.0, b.1)

pub labels : {ts rest : List Token} {x : Labels} → g.IsLabels ts x rest → AreWithin ts → Both LabelsWritten LabelsNamed x (AreWithin rest)
unfolding LabelsWritten LabelsNamed
labels g.any h = (tt, tt, h.1)
labels g.unwind h = (tt, tt, h.1)
labels (g.signals d) h = qnames d h

pub repeat_labels : {ts rest : List Token} {x : RepeatLabels} → g.IsRepeatLabels ts x rest → AreWithin ts → Both RepeatWritten RepeatNamed x (AreWithin rest)
unfolding RepeatWritten RepeatNamed
repeat_labels (g.labels d) h = names d h
repeat_labels g.finished h = (tt, tt, h.1)

pub base : {ts rest : List Token} {x : TypeBase} → g.IsBase ts x rest → AreWithin ts → BaseNamed x × AreWithin rest
unfolding BaseNamed
base g.unsaid h = (tt, h)
base g.of_integer h = (tt, h.1)
base g.of_cardinal h = (tt, h.1)
base g.of_character h = (tt, h.1)
base (g.of_name d) h = qname d h

pub negation : {ts rest : List Token} {x : Bool} → g.IsNot ts x rest → AreWithin ts → AreWithin rest
negation g.affirmed h = h
negation (g.negated _) h = h.1

pub decreasing : {ts rest : List Token} {x : Bool} → g.IsDecreasing ts x rest → AreWithin ts → AreWithin rest
decreasing g.rising h = h
decreasing g.falling h = h.1
