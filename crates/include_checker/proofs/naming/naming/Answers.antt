use Rattle.std.proofs.Common.{◌≡◌, ◌∙◌, ap, length, arith}
use Rattle.std.proofs.lemmas.List.{length-map}
use Rattle.std.specs.List.{AllZip}
use Rattle.std.proofs.lemmas.Result.{IfOk-weaker}
use Rattle.include_rules.specs.Naming.{naming}
use Rattle.include_rules.specs.declared.entries.TextEntry.{TextEntry}
use Rattle.include_checker.specs.Graphs.{IsGraph, LooksAs}
use Rattle.include_checker.specs.Named.{FindsAs, rows_of}
use Rattle.include_checker.proofs.Rows.{looks_as_naming, is_graph}
use Rattle.include_checker.proofs.naming.naming.Goals as goal

pub rows_of-requires : goal.rows_of-requires
rows_of-requires c =
    let long : length c.as_slice-2.result.now ≡ length c.args.texts.now =
    ap length (c.as_slice-2.ensures ∙ c.in_ok-bases.ensures) ∙ length-map c.as_slice.result.now (λ (t : TextEntry). t.base) ∙ ap length c.as_slice.ensures in
    omega (arith, long)

pub returns-clause-graph : goal.returns-clause-graph
returns-clause-graph c =
    let texts = c.args.texts.now in
    IfOk-weaker c.rows_of.result (λ names. AllZip FindsAs names (rows_of c.as_slice-2.result.now c.as_slice-3.result.now)) IsGraph
    (λ names are. is_graph texts names c.requires
    (looks_as_naming texts c.as_slice.result.now c.as_slice-3.result.now c.as_slice-2.result.now names c.as_slice.ensures c.as_slice-3.ensures (c.as_slice-2.ensures ∙ c.in_ok-bases.ensures) are))
    c.rows_of.ensures

pub returns-clause-looks : goal.returns-clause-looks
returns-clause-looks c =
    let texts = c.args.texts.now in
    IfOk-weaker c.rows_of.result (λ names. AllZip FindsAs names (rows_of c.as_slice-2.result.now c.as_slice-3.result.now)) (λ names. LooksAs names (naming texts))
    (λ names are. looks_as_naming texts c.as_slice.result.now c.as_slice-3.result.now c.as_slice-2.result.now names c.as_slice.ensures c.as_slice-3.ensures (c.as_slice-2.ensures ∙ c.in_ok-bases.ensures) are)
    c.rows_of.ensures
