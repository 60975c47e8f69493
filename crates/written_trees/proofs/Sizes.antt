-- How large trees of texts are: a token takes a byte at least, and a tree has at most two nodes for each token.
use Rattle.std.proofs.Common.{◌≡◌, ℕ, ◌≤◌, List, length, arith, refl}
use Rattle.std.proofs.lemmas.List.{length_push}
use Rattle.std.specs.Prelude.{drop}
use Rattle.mesa_lexer.specs.Forms.{Whole}
use Rattle.mesa_lexer.specs.Tokens.{Reaches, start, gap, token, place_in}
use Rattle.mesa_lexer.specs.declared.token.Token.{Token}
use Rattle.mesa_lexer.proofs.Same.{token_some}
use Rattle.syntax_trees.specs.declared.syntax.Module.{Module}
use Rattle.syntax_trees.specs.PlainSyntax.{syntax}
use Rattle.syntax_trees.specs.SyntaxNodes.{module_nodes, nodes}
use Rattle.grammar_rules.proofs.TwoNodes.{module_fits}
use Rattle.check_rules.specs.Laws.{IsOfTextSize}
use Rattle.written_trees.specs.Laws.{IsTreeOf}

few_tokens : {text : List ℕ} {at : ℕ} {tokens : List Token} → Reaches text at tokens → length tokens ≤ at
few_tokens start = omega arith
few_tokens (gap d g) = let before = few_tokens d in omega arith
few_tokens {text = text} (token {at = at} {n = n} {tokens = tokens} {kind = kind} d t) =
    let before = few_tokens d in
    let some = token_some (drop at text) n (Whole kind) t.longest in
    omega (arith, length_push tokens (record { kind = kind; place = place_in text at tokens }))

counted : (x : Module) → nodes x ≡ module_nodes (syntax x)
unfolding nodes
counted x = refl

pub of_text_size : (text : List ℕ) (x : Module) → IsTreeOf text x → IsOfTextSize (syntax x)
of_text_size text x h =
    let few = few_tokens (h.are_its_own).all in
    let short = (h.are_its_own).not_long in
    let fits = (module_fits (h.parsed).0).fits in
    omega (arith, counted x)
