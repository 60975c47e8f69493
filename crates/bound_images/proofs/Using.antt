-- A used item has its want at the number of its link, and stands for what the want says.
use Rattle.std.proofs.Common.{◌≡◌, ℕ, Option, Some, None, slice_get, refl, ap, ◌∙◌, arith}
use Rattle.std.proofs.lemmas.Option.{slice_get_within}
use Rattle.mesa_types.specs.Links.{item_in, imported, UsedIn, IsUsed}
use Rattle.mesa_types.specs.declared.faces.Import.{Import}
use Rattle.mesa_types.specs.declared.faces.Item.{Item}
use Rattle.code_rules.specs.Links.{link_number}
use Rattle.config_rules.specs.declared.tree.TreeInstance.{TreeInstance}
use Rattle.config_rules.specs.Resolves.{Want, wants_in}
use Rattle.bound_images.specs.Programs.{target_by, target_at, target_in, target}
use Rattle.bound_images.proofs.Elements.{get_there}
use Rattle.bound_images.proofs.Modules.{World, module_for, all_there}
use Rattle.bound_images.proofs.Wanting.{the_want, want_there}

pub record Using (W : World) (x : TreeInstance) (k n : ℕ) (i : Item) : Type 0 where
  pub import : Import
  pub there : slice_get x.shape.imports k ≡ Some import
  pub want : Want
  pub is_there : slice_get (wants_in W.tree x) (link_number x.shape.imports k n) ≡ Some want
  pub face : want.face ≡ import.face
  pub item : want.item ≡ i
  pub stands : target W.tree x k n ≡ target_by want.item want.answer

pub using_item : (W : World) (j : ℕ) (x : TreeInstance) → slice_get W.tree.instances j ≡ Some x → (k n : ℕ) (i : Item) → imported x.shape.imports k n ≡ Some i
    → IsUsed x.shape.imports k n → Using W x k n i
unfolding imported item_in IsUsed UsedIn target target_in target_at
using_item W j x at k n i e u = by (slice_get x.shape.imports k) refl e u
  where
    by : (o : Option Import) → slice_get x.shape.imports k ≡ o → item_in o n ≡ Some i → UsedIn o n → Using W x k n i
    by None there f v = absurd v
    by (Some m) there f v =
        let r = get_there x.imports k (let h = (W.built.tree.instances j x at).imports in let l = slice_get_within x.shape.imports k m there in omega (arith, h, l)) in
        record {
          import = m;
          there = there;
          want = the_want W.tree x r.0 m.face i;
          is_there = want_there W.tree x x.imports x.shape.imports (all_there W x (module_for W j x at)) k n m r.0 i there r.1 f v;
          face = refl;
          item = refl;
          stands =
              (λ p. target_in W.tree x.scope (r.1 p) (there p) n)
              ∙ ap (λ o. target_at W.tree (record { scope = x.scope; record_name = r.0 }) m.face o) f;
        }
