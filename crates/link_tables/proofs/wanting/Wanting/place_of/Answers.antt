-- An item that is new is put where its key is.
use Rattle.std.proofs.Common.{◌∷◌, [], ◌++◌, ap, ◌∙◌}
use Rattle.interface_records.specs.declared.wanted.Wanted.{Wanted as Entry}
use Rattle.link_tables.specs.Passes.{entry_in}
use Rattle.link_tables.proofs.Noting.{was_there, was_none, old_noted, old_place, new_noted, new_place, new_indexed}
use Rattle.link_tables.proofs.wanting.Wanting.place_of.Goals as goal

pub returns-in_ok-put-clause-noted : goal.returns-in_ok-put-clause-noted
returns-in_ok-put-clause-noted c =
    let w = c.args.self.now in
    new_noted w.entries w.keys.keys (entry_in c.args.face.now c.args.item.now) c.in_ok-key_of.field-0 c.in_ok-place.place c.requires c.in_ok-key_of.ensures c.in_ok-place.ensures.index
    (was_none c.in_ok-place.is_new _ c.in_ok-place.ensures.added c.if-is_new.true) c.put.new.wanteds
    (c.in_ok-put.ensures ∙ ap (λ (e : Entry). w.entries ++ e ∷ []) c.in_ok-wanted.ensures)

pub returns-in_ok-put-clause-place : goal.returns-in_ok-put-clause-place
returns-in_ok-put-clause-place c =
    let w = c.args.self.now in
    new_place w.entries w.keys.keys (entry_in c.args.face.now c.args.item.now) c.in_ok-key_of.field-0 c.in_ok-place.place c.requires c.in_ok-key_of.ensures c.in_ok-place.ensures.index
    (was_none c.in_ok-place.is_new _ c.in_ok-place.ensures.added c.if-is_new.true) c.put.new.wanteds
    (c.in_ok-put.ensures ∙ ap (λ (e : Entry). w.entries ++ e ∷ []) c.in_ok-wanted.ensures)

pub returns-in_ok-put-clause-indexed : goal.returns-in_ok-put-clause-indexed
returns-in_ok-put-clause-indexed c =
    let w = c.args.self.now in
    c.in_ok-place.ensures.keys
    ∙ new_indexed w.entries w.keys.keys (entry_in c.args.face.now c.args.item.now) c.in_ok-key_of.field-0 c.in_ok-place.place c.requires c.in_ok-key_of.ensures c.in_ok-place.ensures.index
    (was_none c.in_ok-place.is_new _ c.in_ok-place.ensures.added c.if-is_new.true) c.put.new.wanteds
    (c.in_ok-put.ensures ∙ ap (λ (e : Entry). w.entries ++ e ∷ []) c.in_ok-wanted.ensures)

pub returns-else-is_new-clause-noted : goal.returns-else-is_new-clause-noted
returns-else-is_new-clause-noted c =
    let w = c.args.self.now in
    old_noted w.entries w.keys.keys (entry_in c.args.face.now c.args.item.now) c.in_ok-key_of.field-0 c.in_ok-place.place c.requires c.in_ok-key_of.ensures c.in_ok-place.ensures.index
    (was_there c.in_ok-place.is_new _ c.in_ok-place.ensures.added c.if-is_new.false)

pub returns-else-is_new-clause-place : goal.returns-else-is_new-clause-place
returns-else-is_new-clause-place c =
    let w = c.args.self.now in
    old_place w.entries w.keys.keys (entry_in c.args.face.now c.args.item.now) c.in_ok-key_of.field-0 c.in_ok-place.place c.requires c.in_ok-key_of.ensures c.in_ok-place.ensures.index
    (was_there c.in_ok-place.is_new _ c.in_ok-place.ensures.added c.if-is_new.false)
