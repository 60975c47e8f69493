use Rattle.std.proofs.Common.{◌≡◌, length, subst, ◌∙◌, arith}
use Rattle.link_tables.specs.Parts.{ArePlain}
use Rattle.link_tables.proofs.WholeImage.{tree_fits}
use Rattle.link_tables.proofs.linking.link.Goals as goal

pub plain_of-requires-clause-fits : goal.plain_of-requires-clause-fits
plain_of-requires-clause-fits c = λ k d less.
    let f = tree_fits c.args.objects.items c.args.tree.now c.requires.tree k d less in
    let l = c.len.ensures in
    let m = c.args.objects.ok.0 in
    omega (arith, f, l, m)

pub with_links-requires-clause-plain : goal.with_links-requires-clause-plain
with_links-requires-clause-plain c =
    let same : c.len.result ≡ length c.args.objects.items = c.len.ensures ∙ c.args.objects.ok.0 in
    subst (λ n. ArePlain n c.args.tree.now c.in-Ok.plain) same c.in-Ok.ensures
