-- Before any interface is read a text comes to one thing: a lexical fault, a syntax fault, or a tree, which may be refused.
use Rattle.std.proofs.Common.{◌≡◌, ℕ, List, Result, Ok, Err, refl, sym, ap, subst, ◌∙◌}
use Rattle.mesa_base.specs.declared.place.Place.{Place}
use Rattle.mesa_lexer.specs.Tokens.{HasTokens, HasLexFault}
use Rattle.token_cursor.specs.Parsing.{Why, Unexpected, TooDeep}
use Rattle.mesa_lexer.specs.declared.token.Tokens.{Tokens}
use Rattle.mesa_lexer.specs.declared.fault.SyntaxFault.{SyntaxFault}
use Rattle.mesa_lexer.specs.declared.fault.SyntaxFault.TheVariants as s
use Rattle.mesa_lexer.specs.declared.fault.LexFault.{LexFault}
use Rattle.mesa_lexer.proofs.Walks as w
use Rattle.syntax_trees.specs.declared.syntax.Module.{Module}
use Rattle.syntax_trees.specs.PlainSyntax.{syntax}
use Rattle.grammar_rules.specs.Answer.{IsFault, HasSyntaxFault, unexpected as unexpected_token, too_deep as too_deep_token, place_of, Answer, Tree, Fault as Stops, Answers}
use Rattle.grammar_rules.proofs.Whole as g
use Rattle.check_rules.specs.Steps.{Checked}
use Rattle.written_trees.specs.Laws.{IsTreeOf}
use Rattle.checked_texts.specs.Asked.{Purpose, before_files}
use Rattle.checked_texts.specs.Laws.{TextsBeginOnce, TextsHaveOneTree}
use Rattle.checked_texts.specs.TextFaults as f
use Rattle.checked_texts.specs.TextFaults.{TextFault}
use Rattle.checked_texts.specs.Texts.{HasNoTree, HasEarlyFault, Begins, lexical as lexical_fault, syntactic, no_tree, wrong}

-- what a text comes to, whatever it is compiled as
data Verdict : Type 0 where
  Lexical : LexFault → Verdict
  Parsed : Tokens → Answer → Verdict

data Reaches (text : List ℕ) : Verdict → Type 0 where
  lexical : (fault : LexFault) → HasLexFault text fault → Reaches text (Lexical fault)
  parsed : (tokens : Tokens) (a : Answer) → HasTokens text tokens → Answers tokens.items a → Reaches text (Parsed tokens a)

one_answer : (tokens : Tokens) (a b : Answer) → Answers tokens.items a → Answers tokens.items b → a ≡ b
one_answer tokens a b x y = (g.one_answer tokens.items).only a x ∙ sym ((g.one_answer tokens.items).only b y)

same_parsed : (text : List ℕ) (ts us : Tokens) (a b : Answer) → HasTokens text ts → HasTokens text us → Answers ts.items a →
    Answers us.items b → Parsed ts a ≡ Parsed us b
same_parsed text ts us a b h k x y =
    let e : ts ≡ us = (w.one_answer text).one_list ts us h k in
    ap (λ q. Parsed q a) e ∙ ap (λ z. Parsed us z) (one_answer us a b (subst (λ (q : Tokens). Answers q.items a) e x) y)

one_verdict : (text : List ℕ) (v u : Verdict) → Reaches text v → Reaches text u → v ≡ u
one_verdict text (Lexical _) (Lexical _) (lexical f h) (lexical f' h') = ap Lexical ((w.one_answer text).one_fault f f' h h')
one_verdict text (Lexical _) (Parsed _ _) (lexical f h) (parsed ts a k x) = absurd ((w.one_answer text).never_both ts f k h)
one_verdict text (Parsed _ _) (Lexical _) (parsed ts a k x) (lexical f h) = absurd ((w.one_answer text).never_both ts f k h)
one_verdict text (Parsed _ _) (Parsed _ _) (parsed ts a h x) (parsed us b k y) = same_parsed text ts us a b h k x y

-- what a verdict tells: a tree, or why there is none

fault_of : Why → Place → SyntaxFault
fault_of Unexpected place = s.Unexpected place
fault_of TooDeep place = s.TooDeep place

told : Verdict → Result Module TextFault
told (Lexical fault) = Err (f.Lexical fault)
told (Parsed tokens (Stops why at)) = Err (f.Syntactic (fault_of why (place_of tokens.items tokens.end at)))
told (Parsed tokens (Tree tree)) = Ok tree

record Tells (text : List ℕ) (what : Result Module TextFault) : Type 0 where
  verdict : Verdict
  reached : Reaches text verdict
  tells : told verdict ≡ what

of_stop : (text : List ℕ) (why : Why) (place : Place) (tokens : Tokens) → HasTokens text tokens → IsFault tokens.items tokens.end why place
    → Tells text (Err (f.Syntactic (fault_of why place)))
unfolding told
of_stop text why place tokens h stops = record {
  verdict = Parsed tokens (Stops why stops.at);
  reached = parsed tokens (Stops why stops.at) h stops.fault;
  tells = ap (λ p. Err (f.Syntactic (fault_of why p))) (sym stops.here);
}

of_syntax : (text : List ℕ) (fault : SyntaxFault) (tokens : Tokens) → HasTokens text tokens → HasSyntaxFault tokens.items tokens.end fault
    → Tells text (Err (f.Syntactic fault))
unfolding fault_of
of_syntax text (s.Unexpected place) tokens h (unexpected_token stops) = of_stop text Unexpected place tokens h stops
of_syntax text (s.TooDeep place) tokens h (too_deep_token stops) = of_stop text TooDeep place tokens h stops
of_syntax text s.Memory tokens h x = elim x [ ]

tells_tree : (text : List ℕ) (tree : Module) → IsTreeOf text tree → Tells text (Ok tree)
unfolding told
tells_tree text tree h = record { verdict = Parsed h.tokens (Tree tree); reached = parsed h.tokens (Tree tree) h.are_its_own h.parsed; tells = refl }

tells_fault : (text : List ℕ) (why : TextFault) → HasNoTree text why → Tells text (Err why)
unfolding told
tells_fault text _ (lexical_fault fault h) = record { verdict = Lexical fault; reached = lexical fault h; tells = refl }
tells_fault text _ (syntactic fault h) = of_syntax text fault h.tokens h.has_tokens h.has_fault

-- one text tells one thing
one_told : (text : List ℕ) (r q : Result Module TextFault) → Tells text r → Tells text q → r ≡ q
one_told text r q x y = sym x.tells ∙ ap told (one_verdict text x.verdict y.verdict x.reached y.reached) ∙ y.tells

same_ok : (x y : Module) → ◌≡◌ {A = Result Module TextFault} (Ok x) (Ok y) → x ≡ y
same_ok x y e = cc

same_err : (a b : TextFault) → ◌≡◌ {A = Result Module TextFault} (Err a) (Err b) → a ≡ b
same_err a b e = cc

differ : (x : Module) (a : TextFault) → ◌≡◌ {A = Result Module TextFault} (Ok x) (Err a) → ⊥
differ x a e = cc

pub one_tree_of : (text : List ℕ) (x y : Module) → IsTreeOf text x → IsTreeOf text y → x ≡ y
one_tree_of text x y h k = same_ok x y (one_told text (Ok x) (Ok y) (tells_tree text x h) (tells_tree text y k))

pub have_one_tree : TextsHaveOneTree
have_one_tree = record {
  one_tree = one_tree_of;
  one_fault = λ text a b h k. same_err a b (one_told text (Err a) (Err b) (tells_fault text a h) (tells_fault text b k));
  never_both = λ text x a h k. differ x a (one_told text (Ok x) (Err a) (tells_tree text x h) (tells_fault text a k));
}

-- what it shows to one purpose: a tree that may be checked, or a fault

allowed : Module → Checked (Unit {0}) → Result Module TextFault
allowed tree (Ok done) = Ok tree
allowed tree (Err fault) = Err (f.Wrong fault.cause fault.place)

shown : Purpose → Result Module TextFault → Result Module TextFault
shown purpose (Ok tree) = allowed tree (before_files purpose (syntax tree))
shown purpose (Err why) = Err why

record Shows (text : List ℕ) (purpose : Purpose) (what : Result Module TextFault) : Type 0 where
  comes : Result Module TextFault
  tells : Tells text comes
  shows : shown purpose comes ≡ what

shows_tree : (text : List ℕ) (purpose : Purpose) (tree : Module) → Begins text purpose tree → Shows text purpose (Ok tree)
unfolding shown allowed
shows_tree text purpose tree h = record { comes = Ok tree; tells = tells_tree text tree h.is_tree; shows = ap (allowed tree) h.is_well }

shows_fault : (text : List ℕ) (purpose : Purpose) (why : TextFault) → HasEarlyFault text purpose why → Shows text purpose (Err why)
unfolding shown allowed
shows_fault text purpose _ (no_tree why h) = record { comes = Err why; tells = tells_fault text why h; shows = refl }
shows_fault text purpose _ (wrong tree fault h e) = record { comes = Ok tree; tells = tells_tree text tree h; shows = ap (allowed tree) e }

one_shown : (text : List ℕ) (purpose : Purpose) (r q : Result Module TextFault) → Shows text purpose r → Shows text purpose q → r ≡ q
one_shown text purpose r q x y = sym x.shows ∙ ap (shown purpose) (one_told text x.comes y.comes x.tells y.tells) ∙ y.shows

pub one_tree : (text : List ℕ) (purpose : Purpose) (x y : Module) → Begins text purpose x → Begins text purpose y → x ≡ y
one_tree text purpose x y h k = same_ok x y (one_shown text purpose (Ok x) (Ok y) (shows_tree text purpose x h) (shows_tree text purpose y k))

pub begins_once : TextsBeginOnce
begins_once = record {
  one_tree = one_tree;
  one_fault = λ text purpose a b h k.
      same_err a b (one_shown text purpose (Err a) (Err b) (shows_fault text purpose a h) (shows_fault text purpose b k));
  never_both = λ text purpose x a h k. differ x a (one_shown text purpose (Ok x) (Err a) (shows_tree text purpose x h) (shows_fault text purpose a k));
}
