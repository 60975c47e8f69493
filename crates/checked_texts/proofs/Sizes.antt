-- How large modules of texts are: a token takes a byte at least, a tree has at most two nodes for each token, and a typed tree at most two
-- for each node of its tree.
use Rattle.std.proofs.Common.{◌≡◌, ℕ, ◌*◌, ◌≤◌, List, length, Ok, arith, refl, subst}
use Rattle.std.proofs.lemmas.List.{length_push}
use Rattle.std.specs.Prelude.{drop, IfOk}
use Rattle.mesa_base.specs.declared.limits.TheConstants.{TREE_NODES}
use Rattle.mesa_lexer.specs.Forms.{Whole}
use Rattle.mesa_lexer.specs.Tokens.{Reaches, start, gap, token, place_in}
use Rattle.mesa_lexer.specs.declared.token.Token.{Token}
use Rattle.mesa_lexer.proofs.Same.{token_some}
use Rattle.mesa_types.specs.Nodes as typed
use Rattle.mesa_types.specs.Typed as t
use Rattle.syntax_trees.specs.declared.syntax.Module.{Module}
use Rattle.syntax_trees.specs.PlainSyntax.{syntax}
use Rattle.syntax_trees.specs.SyntaxNodes.{module_nodes, nodes}
use Rattle.grammar_rules.proofs.TwoNodes.{module_fits}
use Rattle.interface_records.specs.declared.interface.Interface.{Interface}
use Rattle.check_rules.specs.CheckedModule.{checked}
use Rattle.check_rules.specs.Laws.{IsOfTextSize}
use Rattle.check_rules.specs.Steps.{Checked}
use Rattle.typing_laws.proofs.KeptModule.{few_nodes}
use Rattle.written_trees.specs.Laws.{IsTreeOf}

few_tokens : {text : List ℕ} {at : ℕ} {tokens : List Token} → Reaches text at tokens → length tokens ≤ at
few_tokens start = omega arith
few_tokens (gap d g) = let before = few_tokens d in omega arith
few_tokens {text = text} (token {at = at} {n = n} {tokens = tokens} {kind = kind} d t) =
    let before = few_tokens d in
    let some = token_some (drop at text) n (Whole kind) t.longest in
    omega (arith, length_push tokens (record { kind = kind; place = place_in text at tokens }))

counted : (x : Module) → nodes x ≡ module_nodes (syntax x)
unfolding nodes
counted x = refl

of_text_size : (text : List ℕ) (x : Module) → IsTreeOf text x → IsOfTextSize (syntax x)
of_text_size text x h =
    let few = few_tokens (h.are_its_own).all in
    let short = (h.are_its_own).not_long in
    let fits = (module_fits (h.parsed).0).fits in
    omega (arith, counted x)

within : (size count : ℕ) → size ≤ 2097152 → count ≤ 2 * size → count ≤ TREE_NODES
within size count small few = omega (arith, small, few)

pub few : (text : List ℕ) (x : Module) (is : List Interface) (m : t.Module) → IsTreeOf text x → checked (syntax x) is ≡ Ok m → typed.nodes m ≤ TREE_NODES
few text x is m h e =
    within (module_nodes (syntax x)) (typed.nodes m) (of_text_size text x h)
    (subst (λ (r : Checked t.Module). IfOk r (λ (n : t.Module). typed.nodes n ≤ 2 * module_nodes (syntax x))) e (few_nodes (syntax x) is))
