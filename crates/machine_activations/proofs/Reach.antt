-- The machine comes from one place to another.
use Rattle.std.proofs.Common.{◌≡◌, sym, subst}
use Rattle.object_files.specs.declared.image.Image.{Image}
use Rattle.machine_rules.specs.State.{Store, State, Ending, Stepped, Goes}
use Rattle.machine_rules.specs.Steps.{step, Ends, goes}
use Rattle.machine_activations.specs.Reaching.{Reaches, already, steps_on}

pub reaches_itself : (image : Image) (s : Stepped) → Reaches image s s
reaches_itself image s = already s

pub one_step : (image : Image) (s : State) (x : Stepped) → step image s ≡ x → Reaches image (Goes s) x
one_step image s x is = steps_on s x (subst (λ y. Reaches image y x) (sym is) (already x))

pub two_ways : (image : Image) (s t u : Stepped) → Reaches image s t → Reaches image t u → Reaches image s u
two_ways image s t u (already _) b = b
two_ways image (Goes s) t u (steps_on _ _ a) b = steps_on s u (two_ways image (step image s) t u a b)

pub reaches_so : (image : Image) (s t u : Stepped) → Reaches image s t → t ≡ u → Reaches image s u
reaches_so image s t u a e = subst (λ x. Reaches image s x) e a

-- wherever it ends from there it ends alike
pub ends_alike : (image : Image) (s t : Stepped) → Reaches image s t → (end : Ending) (last : Store) → Ends image t end last → Ends image s end last
ends_alike image s t (already _) end last h = h
ends_alike image (Goes s) t (steps_on _ _ a) end last h = goes s end last (ends_alike image (step image s) t a end last h)
