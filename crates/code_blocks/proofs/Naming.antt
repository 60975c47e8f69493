-- What the code of a sound module may name is what the module names.
use Rattle.std.proofs.Common.{◌≡◌, ap, ◌∙◌, subst, ℕ, zero, suc, List, [], ◌∷◌, map, All, Some}
use Rattle.std.proofs.lemmas.Option.{none-some, same_Some, slice_get-map, slice_get_within, get_or_from_slice_get}
use Rattle.std.specs.Prelude.{slice_get, option_map}
use Rattle.mesa_types.specs.declared.faces.Import.{Import}
use Rattle.mesa_types.specs.declared.faces.Item.{Item}
use Rattle.mesa_types.specs.declared.faces.ItemKind.TheVariants as item
use Rattle.mesa_types.specs.Links.{imported, links_of}
use Rattle.mesa_types.specs.Sound.{Sound, HeadIn, SignalIn, ImportIn}
use Rattle.mesa_types.specs.Typed.{Procedure, Module}
use Rattle.code_forms.specs.Routine.{Routine, words, words_of}
use Rattle.code_rules.specs.Links.{link_number}
use Rattle.code_rules.specs.Modules.{words_of_fields, signal_code, link_code, procedures_of}
use Rattle.code_blocks.specs.Modules.{procedure_code}
use Rattle.code_blocks.proofs.Linking.{linked_there, head_there}
use Rattle.code_blocks.proofs.SteadyRows.{Named}

-- Errors give nothing.

signal_gives : (signals : List Item) → All SignalIn signals → (k : ℕ) (i : Item) → slice_get signals k ≡ Some i → i.kind ≡ item.Error → i.gives ≡ []
unfolding SignalIn HeadIn
signal_gives signals all k i is =
    subst (λ (x : Item). x.kind ≡ item.Error → x.gives ≡ []) (get_or_from_slice_get signals k i i is) ((all k i (slice_get_within signals k i is)).1).2

import_gives : (imports : List Import) → All ImportIn imports → (k n : ℕ) (i : Item) → imported imports k n ≡ Some i → i.kind ≡ item.Error → i.gives ≡ []
unfolding HeadIn
import_gives imports all k n i is = (head_there imports all k n i is).2

procedure_there : (m : Module) (ps : List Procedure) (k : ℕ) (i : Item) → slice_get (map (λ (p : Procedure). p.head) ps) k ≡ Some i
    → slice_get (map words_of (map (procedure_code m) ps)) k ≡ Some (words (words_of_fields i.takes) (words_of_fields i.gives))
procedure_there m [] k i e = absurd (none-some i e)
procedure_there m (p ∷ ps) zero i e = ap (λ (x : Item). Some (words (words_of_fields x.takes) (words_of_fields x.gives))) (same_Some p.head i e)
procedure_there m (p ∷ ps) (suc k) i e = procedure_there m ps k i e

pub module_named : (m : Module) → Sound m → (r : Routine) → r.procedures ≡ map words_of (map (procedure_code m) (procedures_of m))
    → r.signals ≡ map signal_code m.signals → r.links ≡ map link_code (links_of m.imports)
    → Named r m.imports (map (λ (p : Procedure). p.head) m.procedures) m.signals m.imports
module_named m s r procedures signals links = record {
  procedure = λ k i e. ap (λ l. slice_get l (suc k)) procedures ∙ procedure_there m m.procedures k i e;
  signal = λ k i e. ap (λ l. slice_get l k) signals ∙ slice_get-map signal_code m.signals k ∙ ap (λ o. option_map signal_code o) e;
  link = λ k n i e u. ap (λ l. slice_get l (link_number m.imports k n)) links ∙ slice_get-map link_code (links_of m.imports) (link_number m.imports k n)
      ∙ ap (λ o. option_map link_code o) (linked_there m.imports s.imports k n i e u);
  signal_gives = λ k i e. signal_gives m.signals s.signals k i e;
  link_gives = λ k n i e. import_gives m.imports s.imports k n i e;
}
