-- What comes of a text, from what its passes ensure.
use Rattle.std.proofs.Common.{◌≡◌, ◌≢◌, ℕ, ◌+◌, ◌<◌, ◌≤◌, true, false, List, drop, get_or, length, Ok, Err, sym, ◌∙◌, ap, subst}
use Rattle.std.proofs.lemmas.List.{at_drop_all, at_drop_more}
use Rattle.mesa_lexer.specs.Tokens.{HasTokens, HasLexFault}
use Rattle.mesa_lexer.specs.declared.token.Tokens.{Tokens}
use Rattle.mesa_lexer.specs.declared.fault.LexFault.{LexFault}
use Rattle.mesa_lexer.specs.declared.fault.LexFault.TheVariants as lex
use Rattle.mesa_lexer.specs.declared.fault.SyntaxFault.{SyntaxFault}
use Rattle.mesa_lexer.specs.declared.fault.SyntaxFault.TheVariants as syntax_fault
use Rattle.syntax_trees.specs.declared.syntax.DirectoryItem.{DirectoryItem}
use Rattle.syntax_trees.specs.declared.syntax.Module.{Module}
use Rattle.syntax_trees.specs.PlainSyntax.{syntax}
use Rattle.grammar_rules.specs.Answer as grammar
use Rattle.interface_records.specs.declared.interface.Interface as records
use Rattle.check_rules.specs.declared.fault.Cause.TheVariants.{UnknownName}
use Rattle.check_rules.specs.declared.fault.CheckFault.{CheckFault}
use Rattle.check_rules.specs.declared.fault.CheckFault.TheVariants as check
use Rattle.check_rules.specs.Steps.{and_then, only}
use Rattle.module_checker.specs.check_state.specs.Gives.{fault}
use Rattle.written_trees.specs.Laws.{IsTreeOf}
use Rattle.checked_texts.specs.Asked.{Purpose, names_file, name_files, before_files}
use Rattle.checked_texts.specs.TextFaults as f
use Rattle.checked_texts.specs.TextFaults.{TextFault, of_lexical, of_syntactic, of_checking}
use Rattle.checked_texts.specs.Texts.{HasNoTree, HasEarlyFault, HasCheckFault, Begins, OneForEach, IsRefused, lexical, syntactic, wrong}

-- the items of a DIRECTORY, one after the other

item_at : (ds : List DirectoryItem) (i : ℕ) (d : DirectoryItem) → i < length ds → d ≡ get_or ds i d
    → name_files (drop i ds) ≡ and_then (only (names_file d) UnknownName d.file_place) (λ _. name_files (drop (i + 1) ds))
unfolding name_files
item_at ds i d inside here =
    at_drop_more name_files ds i d inside
    ∙ ap (λ (x : DirectoryItem). and_then (only (names_file x) UnknownName x.file_place) (λ _. name_files (drop (i + 1) ds))) (sym here)

pub item_does : (ds : List DirectoryItem) (i : ℕ) (d : DirectoryItem) → i < length ds → d ≡ get_or ds i d → names_file d ≡ true
    → name_files (drop i ds) ≡ name_files (drop (i + 1) ds)
item_does ds i d inside here does =
    item_at ds i d inside here ∙ ap (λ b. and_then (only b UnknownName d.file_place) (λ _. name_files (drop (i + 1) ds))) does

pub item_does_not : (ds : List DirectoryItem) (i : ℕ) (d : DirectoryItem) → i < length ds → d ≡ get_or ds i d → names_file d ≡ false
    → name_files (drop i ds) ≡ Err (record { cause = UnknownName; place = d.file_place })
item_does_not ds i d inside here does =
    item_at ds i d inside here ∙ ap (λ b. and_then (only b UnknownName d.file_place) (λ _. name_files (drop (i + 1) ds))) does

pub no_more_items : (ds : List DirectoryItem) (i : ℕ) → length ds ≤ i → name_files (drop i ds) ≡ Ok tt
unfolding name_files
no_more_items ds i outside = at_drop_all name_files ds i outside

-- the faults of the passes are the text's

pub lexical_is : (text : List ℕ) (why : LexFault) (shown : TextFault) → (why ≢ lex.Memory → HasLexFault text why)
    → shown ≡ of_lexical why → shown ≢ f.Memory → HasNoTree text shown
lexical_is text lex.Memory shown has e other = absurd (other e)
lexical_is text (lex.BadByte place) shown has e other = subst (HasNoTree text) (sym e) (lexical (lex.BadByte place) (has (λ no. cc)))
lexical_is text (lex.OpenString place) shown has e other = subst (HasNoTree text) (sym e) (lexical (lex.OpenString place) (has (λ no. cc)))
lexical_is text (lex.NumberTooLarge place) shown has e other = subst (HasNoTree text) (sym e) (lexical (lex.NumberTooLarge place) (has (λ no. cc)))
lexical_is text (lex.TokenTooLong place) shown has e other = subst (HasNoTree text) (sym e) (lexical (lex.TokenTooLong place) (has (λ no. cc)))
lexical_is text lex.TextTooLong shown has e other = subst (HasNoTree text) (sym e) (lexical lex.TextTooLong (has (λ no. cc)))

pub syntax_is : (text : List ℕ) (tokens : Tokens) (why : SyntaxFault) (shown : TextFault) → HasTokens text tokens
    → (why ≢ syntax_fault.Memory → grammar.HasSyntaxFault tokens.items tokens.end why) → shown ≡ of_syntactic why
    → shown ≢ f.Memory → HasNoTree text shown
syntax_is text tokens syntax_fault.Memory shown made has e other = absurd (other e)
syntax_is text tokens (syntax_fault.Unexpected place) shown made has e other =
    subst (HasNoTree text) (sym e) (syntactic (syntax_fault.Unexpected place)
    (record { tokens = tokens; has_tokens = made; has_fault = has (λ no. cc) }))
syntax_is text tokens (syntax_fault.TooDeep place) shown made has e other =
    subst (HasNoTree text) (sym e) (syntactic (syntax_fault.TooDeep place)
    (record { tokens = tokens; has_tokens = made; has_fault = has (λ no. cc) }))

pub wrong_is : (text : List ℕ) (purpose : Purpose) (tree : Module) (why : CheckFault) (shown : TextFault) → IsTreeOf text tree
    → (why ≢ check.Memory → before_files purpose (syntax tree) ≡ Err (fault why)) → shown ≡ of_checking why → shown ≢ f.Memory
    → HasEarlyFault text purpose shown
wrong_is text purpose tree check.Memory shown h gives e other = absurd (other e)
wrong_is text purpose tree (check.At cause place) shown h gives e other =
    subst (HasEarlyFault text purpose) (sym e) (wrong tree (fault (check.At cause place)) h (gives (λ no. cc)))

pub refused_is : (text : List ℕ) (purpose : Purpose) (is : List records.Interface) (tree : Module) (why : CheckFault) (shown : TextFault)
    → Begins text purpose tree → OneForEach is tree → (why ≢ check.Memory → IsRefused purpose (syntax tree) is (fault why)) → shown ≡ of_checking why
    → shown ≢ f.Memory → HasCheckFault text purpose is shown
refused_is text purpose is tree check.Memory shown h given gives e other = absurd (other e)
refused_is text purpose is tree (check.At cause place) shown h given gives e other = record {
  tree = tree;
  fault = fault (check.At cause place);
  begins = h;
  given = given;
  is_refused = gives (λ no. cc);
  is_it = e;
}
