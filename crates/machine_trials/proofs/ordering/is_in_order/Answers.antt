use Rattle.std.proofs.Common.{◌<◌, ℕ, List, length, All, sym, ◌∙◌, subst, arith}
use Rattle.object_files.specs.declared.image.Instance.{Instance}
use Rattle.machine_trials.proofs.Ordered.{links_in_order}
use Rattle.machine_trials.proofs.ordering.is_in_order.Goals as goal

pub returns-then-are_below : goal.returns-then-are_below
returns-then-are_below c h =
    let as_many = sym c.len-2.ensures ∙ c.if-len.false ∙ c.len-3.ensures in
    record {
      few_modules = let a = c.if-len-gt65534.false in let e = c.len.ensures in omega (arith, a, e);
      few_instances = let a = c.if-len-gt-INSTANCES.false in let e = c.len-else-len-gt65534.ensures in omega (arith, a, e);
      modules = subst (λ (xs : List Instance). All (λ (i : Instance). i.module < length c.args.image.now.modules) xs) c.as_slice.ensures
          (λ k d l. let a = c.modules_are_there.ensures c.if-not-modules_are_there.false k d l in let e = c.len-4.ensures in omega (arith, a, e));
      tables = as_many;
      links = links_in_order c.args.image.now as_many (c.tables_fit.ensures h);
      control = subst (λ (xs : List ℕ). All (λ j. j < length c.args.image.now.instances) xs) c.as_slice-2.ensures
          (λ k d l. let a = c.are_below.ensures c.if-are_below.true k d l in let e = c.len-5.ensures in omega (arith, a, e));
    }
