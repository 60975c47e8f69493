-- What the copy has under a name is of the same value.
use Rattle.std.proofs.Common.{ap, ℕ, Bool}
use Rattle.std.specs.declared.vec.Vec.{Vec}
use Rattle.std.specs.declared.alloc.Global.{Global}
use Rattle.std.specs.Ordering.{is_eq, nat_cmp}
use Rattle.std.specs.Cmp.Lexicographic.{slice_cmp}
use Rattle.std.specs.Map.{lookup}
use Rattle.std.proofs.lemmas.List.Elements.{same_from_all_zip}
use Rattle.std.proofs.lemmas.Map.Entries.{lookup_clone}
use Rattle.check_scopes.specs.Shows.{listed, valued, indexed}
use Rattle.check_scopes.proofs.LayerLaws.{cloned}
use Rattle.check_scopes.proofs.index.Index+Rc+T.copied.Goals as goal

pub returns : goal.returns
unfolding valued listed indexed
returns g c = λ i x.
    let test : Vec ℕ Global → Bool = λ k. is_eq (slice_cmp nat_cmp x k.items) in
    cloned (lookup test c.args.self.now.index.entries) (lookup test c.in_ok-clone.field-0.entries)
    (lookup_clone _ _ test (λ k l h. ap (λ is. is_eq (slice_cmp nat_cmp x is)) (same_from_all_zip _ k.items l.items h.0 (λ a b e. e)))
    c.args.self.now.index.entries c.in_ok-clone.field-0.entries c.in_ok-clone.ensures.cases) i
