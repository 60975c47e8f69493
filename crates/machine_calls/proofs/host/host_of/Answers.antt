use Rattle.std.proofs.Common.{ap, sym, ◌∙◌}
use Rattle.interface_records.specs.declared.wanted.Wanted.{Wanted}
use Rattle.machine_rules.specs.LookUps.{host_named}
use Rattle.machine_calls.proofs.Found.{place_is, read_within, host_at, is_there}
use Rattle.machine_calls.proofs.host.host_of.Goals as goal

pub bounds-as_slice-wanted : goal.bounds-as_slice-wanted
bounds-as_slice-wanted c =
    let w = host_at c.args.image.now c.args.wanted c.requires in
    read_within c.as_slice.result.now c.args.image.now.wanted c.args.wanted w.wanted c.as_slice.ensures w.there

pub host_named-requires : goal.host_named-requires
host_named-requires c =
    let w = host_at c.args.image.now c.args.wanted c.requires in
    let same = place_is c.as_slice.result.now c.args.image.now.wanted c.args.wanted w.wanted c.index-as_slice-wanted.result c.as_slice.ensures w.there in
    is_there (host_named c.bytes.result.now) w.host (ap host_named (c.bytes.ensures ∙ ap (λ (x : Wanted). x.item.name) same) ∙ w.named)

pub returns : goal.returns
returns c =
    let w = host_at c.args.image.now c.args.wanted c.requires in
    let same = place_is c.as_slice.result.now c.args.image.now.wanted c.args.wanted w.wanted c.index-as_slice-wanted.result c.as_slice.ensures w.there in
    w.is ∙ sym (ap host_named (c.bytes.ensures ∙ ap (λ (x : Wanted). x.item.name) same) ∙ w.named) ∙ c.host_named.ensures
