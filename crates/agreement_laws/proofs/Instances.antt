-- An instance of a program, and that of the image which stands for it.
use Rattle.std.proofs.Common.{◌≡◌, ⊎_elim, ℕ, Some, ap, ◌∙◌, subst, arith}
use Rattle.std.specs.Prelude.{slice_get, option_map, option_and_then}
use Rattle.std.proofs.lemmas.Option.{slice_get_within, get_or_from_slice_get, slice_get_cases}
use Rattle.object_files.specs.declared.image.Instance.{Instance}
use Rattle.object_files.specs.declared.object.Object.{Object}
use Rattle.source_meaning.specs.Program as source
use Rattle.source_meaning.specs.Program.{module_of, instance_of, or_else, no_instance}
use Rattle.source_meaning.specs.Lawful.{LawfulInstance}
use Rattle.machine_rules.specs.LookUps.{module_number, code_in, code_of}
use Rattle.agreement_rules.specs.Stands.{InstanceStands}
use Rattle.agreement_laws.specs.World.{World, Ready}

pub record InstanceThere (W : World) (j : ℕ) (m : source.Instance) : Type 0 where
  pub module_is : module_of W.program j ≡ m.code
  pub links_are : (instance_of W.program j).links ≡ m.links
  pub instance : Instance
  pub number_of : module_number W.image j ≡ Some instance.module
  pub stands : InstanceStands W.image j m instance
  pub is_code : code_of W.image j ≡ Some stands.object.code
  pub lawful : LawfulInstance W.program m

instance_by : (W : World) → Ready W → (j : ℕ) (m : source.Instance) → slice_get W.program.instances j ≡ Some m → (i : Instance)
    → slice_get W.image.instances j ≡ Some i → InstanceThere W j m
unfolding module_of instance_of or_else code_of module_number code_in
instance_by W ready j m is i there =
    let s = ready.stands.instances j m i is there in
    record {
      module_is = ap (λ o. (or_else no_instance o).code) is;
      links_are = ap (λ o. (or_else no_instance o).links) is;
      instance = i;
      number_of = ap (λ o. option_map (λ (x : Instance). x.module) o) there;
      stands = s;
      is_code =
          ap (λ o. option_and_then (code_in W.image) (option_map (λ (x : Instance). x.module) o)) there
          ∙ ap (λ o. option_map (λ (x : Object). x.code) o) s.is_there;
      lawful = subst (λ x. LawfulInstance W.program x) (get_or_from_slice_get W.program.instances j m m is)
          (ready.lawful.instances j m (slice_get_within W.program.instances j m is));
    }

pub instance_there : (W : World) → Ready W → (j : ℕ) (m : source.Instance) → slice_get W.program.instances j ≡ Some m → InstanceThere W j m
instance_there W ready j m is = ⊎_elim
    (λ x. instance_by W ready j m is x.0 x.2)
    (λ x. let l = slice_get_within W.program.instances j m is in let n = ready.stands.as_many in let g = x.0 in absurd (omega (arith, l, n, g)))
    (slice_get_cases W.image.instances j).1
