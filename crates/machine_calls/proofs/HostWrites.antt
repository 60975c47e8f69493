-- What the host's procedures that write do.
use Rattle.std.proofs.Common.{◌≡◌, ℕ, ◌+◌, ◌-◌, ◌%◌, ◌≤◌, List, [], ◌∷◌, ◌++◌, length, Some, refl, ap, ◌∙◌, arith}
use Rattle.std.specs.Prelude.{slice_index}
use Rattle.code_forms.specs.declared.instruction.Instruction.{Instruction}
use Rattle.code_forms.specs.Instructions.{bytes_of}
use Rattle.mesa_base.specs.Decimal.{signed_word}
use Rattle.object_files.specs.declared.image.Image.{Image}
use Rattle.machine_rules.specs.State.{Active, Activations, Store, Runs, Stepped, Goes}
use Rattle.machine_rules.specs.Words.{push, under, on_top, on_two}
use Rattle.machine_rules.specs.LookUps.{text_of, instruction_under}
use Rattle.machine_rules.specs.Moves.{with, onward, give}
use Rattle.machine_rules.specs.Calls.{host_write, host}
use Rattle.machine_topmost.specs.declared.registers.Registers.{Registers}
use Rattle.machine_topmost.proofs.Showing.{operands_to, top_shown, two_shown}
use Rattle.machine_activations.specs.declared.row.Layout.{Layout}
use Rattle.machine_activations.specs.declared.row.Row.{Row}
use Rattle.machine_activations.specs.Links.{host_gives}
use Rattle.machine_activations.specs.Placed.{floor_at}
use Rattle.machine_activations.specs.Reaching.{Reaches, Shown}
use Rattle.machine_activations.specs.Shows.{IsPrepared, IsAmple}
use Rattle.machine_calls.specs.declared.host.HostProcedure.TheVariants.{Write}
use Rattle.machine_calls.specs.declared.host.Writing.{Writing}
use Rattle.machine_calls.specs.declared.host.Writing.TheVariants.{Char, Text, Decimal}
use Rattle.machine_calls.specs.Hosts.{host_is, CallsHost}
use Rattle.machine_calls.specs.Hosting.{behind_call, text_written, WritesOn}
use Rattle.machine_calls.proofs.Behind.{call_there, full, gone_on, operands_here, behind_shows}
use Rattle.machine_activations.proofs.Reach.{reaches_so}

-- words are given in the place of others, and the topmost activation goes on behind its instruction
pub given : (image : Image) (n : ℕ) (words : List ℕ) (a : Active) (S : Activations) (m : Store) (i : Instruction) → instruction_under image a ≡ Some i
    → give image n words (a ∷ S) m ≡ Goes (Runs (record a { offset = a.offset + bytes_of i; operands = push words (under n a.operands) } ∷ S) m)
unfolding give with onward
given image n words a S m i is = ap (λ o. with o m (λ (i : Instruction). onward i (push words (under n a.operands)) a S m)) is

module _ (image : Image) (a : Active) (S : Activations) (m : Store) (i : Instruction) (is : instruction_under image a ≡ Some i) where
  -- so much is written
  abbrev pub wrote : (n : ℕ) → List ℕ → Stepped
  wrote n text = Goes (Runs (record a { offset = a.offset + bytes_of i; operands = under n a.operands } ∷ S) (record m { output = m.output ++ text }))

  one_written : (text : ℕ → List ℕ) (x : ℕ) (rest : List ℕ) → a.operands ≡ x ∷ rest → on_top a.operands (λ c rest. host_write image 1 (text c) (a ∷ S) m) ≡ wrote 1 (text x)
  unfolding host_write
  one_written text x rest e = ap (λ o. on_top o (λ c rest. host_write image 1 (text c) (a ∷ S) m)) e ∙ given image 1 [] a S (record m { output = m.output ++ text x }) i is

  two_written : (text : ℕ → ℕ → List ℕ) (y x : ℕ) (rest : List ℕ) → a.operands ≡ y ∷ x ∷ rest → on_two a.operands (λ n k rest. host_write image 2 (text n k) (a ∷ S) m) ≡ wrote 2 (text x y)
  unfolding host_write
  two_written text y x rest e = ap (λ o. on_two o (λ n k rest. host_write image 2 (text n k) (a ∷ S) m)) e ∙ given image 2 [] a S (record m { output = m.output ++ text x y }) i is

module _ (image : Image) (layout : Layout) (prepared : IsPrepared image layout) (region : List ℕ) (table : List Row) (r : Registers) (ample : IsAmple layout region table r.top) where
  module _ (writing : Writing) (e : CallsHost image layout region table r (host_is (Write writing))) (m : Store) where
    abbrev floor : ℕ
    floor = floor_at layout (length e.rest)

    there : instruction_under image e.top ≡ Some e.entry.instruction
    there = call_there image layout prepared region table r ample (host_is (Write writing)) e

    one_there : floor + 1 ≤ r.sp → e.top.operands ≡ slice_index region (r.sp - 1) ∷ operands_to region floor (r.sp - 1)
    one_there some =
        operands_here image layout prepared region table r ample (host_is (Write writing)) e
        ∙ top_shown region floor r.sp (r.sp - 1) (omega (arith, some)) (omega (arith, some)) (full image layout prepared region table r ample (host_is (Write writing)) e)

    two_there : floor + 2 ≤ r.sp → e.top.operands ≡ slice_index region (r.sp - 1) ∷ slice_index region (r.sp - 2) ∷ operands_to region floor (r.sp - 2)
    two_there some =
        operands_here image layout prepared region table r ample (host_is (Write writing)) e
        ∙ two_shown region floor r.sp some (full image layout prepared region table r ample (host_is (Write writing)) e)

  pub writes : (writing : Writing) (e : CallsHost image layout region table r (host_is (Write writing))) (m : Store)
      → host image (host_is (Write writing)) e.top e.rest m
      ≡ Goes (Runs (gone_on image layout prepared region table r ample (host_is (Write writing)) e [] ∷ e.rest)
      (record m { output = m.output ++ text_written image region r writing }))
  unfolding host
  writes Char e m =
      let sp = e.shows.sp in let enough = e.enough in
      one_written image e.top e.rest m e.entry.instruction (there Char e m) (λ c. c % 256 ∷ []) _ _ (one_there Char e m (omega (arith, sp, enough)))
  writes Text e m =
      let sp = e.shows.sp in let enough = e.enough in
      two_written image e.top e.rest m e.entry.instruction (there Text e m) (λ n k. text_of image n k) _ _ _ (two_there Text e m (omega (arith, sp, enough)))
  writes Decimal e m =
      let sp = e.shows.sp in let enough = e.enough in
      one_written image e.top e.rest m e.entry.instruction (there Decimal e m) (λ n. signed_word n) _ _ (one_there Decimal e m (omega (arith, sp, enough)))

  none_given : (writing : Writing) → length {A = ℕ} [] ≡ host_gives (host_is (Write writing))
  none_given Char = refl
  none_given Text = refl
  none_given Decimal = refl

  pub written_shown : (writing : Writing) (e : CallsHost image layout region table r (host_is (Write writing))) (s : Stepped) (m : Store) → Reaches image s (host image (host_is (Write writing)) e.top e.rest m)
      → Shown image layout region table (behind_call (Write writing) r) s (record m { output = m.output ++ text_written image region r writing })
  written_shown writing e s m reaches = record {
    top = gone_on image layout prepared region table r ample (host_is (Write writing)) e [];
    rest = e.rest;
    procedure = e.procedure;
    shows = behind_shows image layout prepared region table r ample (host_is (Write writing)) e region [] (none_given writing) (λ k n l. refl) refl;
    reaches = reaches_so image _ _ _ reaches (writes writing e m);
  }

pub writes_on : (image : Image) (region : List ℕ) (r : Registers) (writing : Writing) → WritesOn image region r writing (text_written image region r writing) (behind_call (Write writing) r)
writes_on image region r writing layout table prepared ample e s m reaches = written_shown image layout prepared region table r ample writing e s m reaches
