-- The laws from their parts.
use Rattle.std.proofs.Common.{◌≡◌, ℕ, ◌≤◌, List, length, arith, refl}
use Rattle.std.proofs.lemmas.List.{length_push}
use Rattle.std.specs.Prelude.{drop}
use Rattle.mesa_lexer.specs.Forms.{Whole}
use Rattle.mesa_lexer.specs.Tokens.{Reaches, start, gap, token, place_in}
use Rattle.mesa_lexer.specs.declared.token.Token.{Token}
use Rattle.mesa_lexer.proofs.Same.{token_some}
use Rattle.syntax_trees.specs.declared.syntax.Module.{Module}
use Rattle.syntax_trees.specs.PlainSyntax.{syntax}
use Rattle.syntax_trees.specs.SyntaxNodes.{module_nodes, nodes}
use Rattle.grammar_rules.proofs.TwoNodes.{module_fits}
use Rattle.checking_laws.specs.Weights.{one_each, in_bytes}
use Rattle.text_weights.specs.Tokens.{tokens_weight}
use Rattle.text_weights.specs.Laws.{TokensAreInTheirText, TreesAreOfTheirTokens, TreesAreSizedByTheirText}
use Rattle.text_weights.proofs.Texts.{bytes_reached, names_are_apart}
use Rattle.text_weights.proofs.Modules.{module_f}

few_tokens : {text : List ℕ} {at : ℕ} {tokens : List Token} → Reaches text at tokens → length tokens ≤ at
few_tokens start = omega arith
few_tokens (gap d g) = let before = few_tokens d in omega arith
few_tokens {text = text} (token {at = at} {n = n} {tokens = tokens} {kind = kind} d t) =
    let before = few_tokens d in
    let some = token_some (drop at text) n (Whole kind) t.longest in
    omega (arith, length_push tokens (record { kind = kind; place = place_in text at tokens }))

pub tokens_are_in_their_text : TokensAreInTheirText
tokens_are_in_their_text text tokens h = record { tokens_in_bytes = few_tokens h.all; bytes = bytes_reached h.all; names = names_are_apart h.all }

pub trees_are_of_their_tokens : TreesAreOfTheirTokens
unfolding tokens_weight
trees_are_of_their_tokens w tokens x h = omega (arith, (module_f w h.0).fits)

counted : (x : Module) → nodes x ≡ module_nodes (syntax x)
unfolding nodes
counted x = refl

pub trees_are_sized_by_their_text : TreesAreSizedByTheirText
trees_are_sized_by_their_text text tokens x h parsed =
    let own = tokens_are_in_their_text text tokens h in
    record {
      nodes = omega (arith, counted x, (module_fits parsed.0).fits, own.tokens_in_bytes);
      names = omega (arith, trees_are_of_their_tokens one_each tokens.items x parsed, own.names);
      bytes = omega (arith, trees_are_of_their_tokens in_bytes tokens.items x parsed, own.bytes);
    }
