-- The topmost activation goes on behind its call of the host, with what that gives in the place of what it takes.
use Rattle.std.proofs.Common.{◌≡◌, ℕ, ◌+◌, ◌-◌, ◌*◌, ◌<◌, ◌≤◌, List, ◌++◌, length, reverse, Some, sym, ap, subst, ◌∙◌, arith}
use Rattle.std.proofs.lemmas.List.{length-drop}
use Rattle.std.proofs.lemmas.Option.{same_Some}
use Rattle.code_forms.specs.declared.module_code.CodeEntry.{CodeEntry}
use Rattle.code_forms.specs.Instructions.{bytes_of}
use Rattle.code_forms.specs.Routine.{Begins, spots}
use Rattle.code_forms.proofs.Leading.{begins_there}
use Rattle.object_files.specs.declared.image.Image.{Image}
use Rattle.machine_rules.specs.State.{Active}
use Rattle.machine_rules.specs.Words.{push, under}
use Rattle.machine_rules.specs.LookUps.{Host, instruction_under}
use Rattle.machine_rules.specs.Activations.{own_frame}
use Rattle.machine_topmost.specs.declared.registers.Registers.{Registers}
use Rattle.machine_topmost.specs.Flat.{part}
use Rattle.machine_topmost.proofs.Parts.{part_in_two, pushed}
use Rattle.machine_topmost.proofs.Showing.{operands_to, under_shown}
use Rattle.machine_activations.specs.declared.row.Layout.{Layout}
use Rattle.machine_activations.specs.declared.row.Row.{Row}
use Rattle.machine_activations.specs.Placed.{slots_from, floor_at}
use Rattle.machine_activations.specs.Below.{over}
use Rattle.machine_activations.specs.Links.{host_takes, host_gives}
use Rattle.machine_activations.specs.Shows.{IsPrepared, IsAmple, Shows}
use Rattle.machine_activations.proofs.Called.{below_here}
use Rattle.machine_activations.proofs.Grown.{operands_fit}
use Rattle.machine_activations.proofs.Keeping.{SameTo, below_same, variables_same}
use Rattle.machine_activations.proofs.Located.{in_code, joined, at_offset, number_small, stands_at}
use Rattle.machine_activations.proofs.Returning.{length-push}
use Rattle.machine_activations.proofs.Standing.{part_within, top_part}
use Rattle.machine_calls.specs.declared.host.HostProcedure.{HostProcedure}
use Rattle.machine_calls.specs.Hosts.{host_is, CallsHost}
use Rattle.machine_calls.specs.Hosting.{CanCall}

abbrev pub registers_behind : Host → Registers → Registers
registers_behind h r = record { top = r.top; slots = r.slots; sp = r.sp - host_takes h + host_gives h; entry = r.entry + 1 }

module _ (image : Image) (layout : Layout) (prepared : IsPrepared image layout) (region : List ℕ) (table : List Row) (r : Registers) (ample : IsAmple layout region table r.top)
    (h : Host) (e : CallsHost image layout region table r h) where
  abbrev pub top : Active
  top = e.top

  abbrev floor : ℕ
  floor = floor_at layout (length e.rest)

  -- how many operands stay
  abbrev kept : ℕ
  kept = length top.operands - host_takes h

  pub call_there : instruction_under image top ≡ Some e.entry.instruction
  call_there = stands_at image layout prepared top e.procedure e.shows.is r.entry e.entry e.fetched e.shows.begins

  pub sp_is : r.sp ≡ floor + length top.operands
  sp_is = e.shows.sp

  within : length e.rest * layout.part + layout.part ≤ length region
  within =
      let w = part_within image layout prepared region table r e.procedure top e.rest e.shows ample in
      let t = top_part image layout prepared region table r e.procedure top e.rest e.shows ample in omega (arith, w, t)

  pub full : r.sp ≤ length region
  full =
      let w = within in let sp = sp_is in
      let l = prepared.laid top.instance top.procedure e.procedure e.shows.is in
      let fit = operands_fit image layout prepared region table r ample 0 e.procedure top e.rest e.shows in omega (arith, w, sp, l.1, fit)

  -- there is room for what it gives
  next_fits : kept + host_gives h ≤ e.procedure.depth
  next_fits =
      let c = in_code image layout prepared top.instance top.procedure e.procedure e.shows.is in
      let d = below_here image layout prepared c.code top.instance top.procedure e.procedure c.is e.shows.is (r.entry + 1) e.next.next e.next.is in
      let deep = e.next.deep in omega (arith, d, deep)

  pub room : r.sp - host_takes h + host_gives h ≤ length region
  room =
      let w = within in let sp = sp_is in let n = next_fits in let enough = e.enough in
      let l = prepared.laid top.instance top.procedure e.procedure e.shows.is in omega (arith, w, sp, l.1, n, enough)

  pub operands_here : top.operands ≡ operands_to region floor r.sp
  operands_here =
      let sp = sp_is in
      let many : length top.operands ≡ r.sp - floor = omega (arith, sp) in
      sym e.shows.placed.operands ∙ ap (λ k. reverse (part region floor k)) many

  begins_behind : Begins (spots e.procedure.code) (r.entry + 1) (top.offset + bytes_of e.entry.instruction)
  begins_behind =
      let c = in_code image layout prepared top.instance top.procedure e.procedure e.shows.is in
      let here : e.entry.at ≡ top.offset = at_offset e.procedure.code r.entry top.offset e.entry e.fetched e.shows.begins in
      let after : e.next.next.at ≡ top.offset + bytes_of e.entry.instruction =
      sym (joined c.code top.procedure e.procedure c.there r.entry e.entry e.next.next e.fetched e.next.is) ∙ ap (λ k. k + bytes_of e.entry.instruction) here in
      subst (λ k. Begins (spots e.procedure.code) (r.entry + 1) k) after (begins_there e.procedure.code (r.entry + 1) e.next.next e.next.is)

  abbrev pub gone_on : List ℕ → Active
  gone_on words = record top { offset = top.offset + bytes_of e.entry.instruction; operands = push words (under (host_takes h) top.operands) }

  module _ (region' words : List ℕ) (many : length words ≡ host_gives h) (same : SameTo region region' (r.sp - host_takes h)) (there : part region' (r.sp - host_takes h) (length words) ≡ words) where
    few : length (under (host_takes h) top.operands) ≡ kept
    few = length-drop (host_takes h) top.operands

    count : length (push words (under (host_takes h) top.operands)) ≡ kept + length words
    count = let p = length-push words (under (host_takes h) top.operands) in let f = few in omega (arith, p, f)

    end_is : floor + kept ≡ r.sp - host_takes h
    end_is = let sp = sp_is in let enough = e.enough in omega (arith, sp, enough)

    under_there : reverse (part region' floor kept) ≡ under (host_takes h) top.operands
    under_there =
        let sp = sp_is in let enough = e.enough in let end = end_is in
        let k : kept ≡ r.sp - host_takes h - floor = omega (arith, end) in
        ap (λ l. reverse l) (same floor kept (omega (arith, end)))
        ∙ ap (λ n. reverse (part region floor n)) k
        ∙ sym (under_shown region floor r.sp (host_takes h) (omega (arith, sp, enough)) full)
        ∙ ap (λ o. under (host_takes h) o) (sym operands_here)

    operands_there : reverse (part region' floor (length (push words (under (host_takes h) top.operands)))) ≡ push words (under (host_takes h) top.operands)
    operands_there =
        ap (λ n. reverse (part region' floor n)) count
        ∙ ap (λ l. reverse l) (part_in_two region' floor kept (length words))
        ∙ ap (λ l. reverse (part region' floor kept ++ l)) (ap (λ k. part region' k (length words)) end_is ∙ there)
        ∙ sym (pushed (part region' floor kept) words)
        ∙ ap (λ o. push words o) under_there

    pub behind_shows : Shows image layout region' table (registers_behind h r) e.procedure (gone_on words) e.rest
    unfolding own_frame
    behind_shows =
        let l = prepared.laid top.instance top.procedure e.procedure e.shows.is in
        let sp = sp_is in let enough = e.enough in let n = count in let end = end_is in
        record {
          is = e.shows.is;
          top = e.shows.top;
          slots = e.shows.slots;
          sp = omega (arith, n, many, end);
          begins = begins_behind;
          deep = λ f at. let next : e.next.next ≡ f = same_Some e.next.next f (sym e.next.is ∙ at) in
              let d = ap (λ (x : CodeEntry). x.depth) next in let deep = e.next.deep in omega (arith, d, deep, n, many);
          placed = record {
            variables = variables_same region region' (slots_from layout (length e.rest)) e.procedure.frame top.role
                (same (slots_from layout (length e.rest)) e.procedure.frame (omega (arith, l.0, end))) e.shows.placed.variables;
            operands = operands_there;
          };
          rowed = record {
            row = e.shows.rowed.row;
            there = e.shows.rowed.there;
            same_instance = e.shows.rowed.same_instance;
            same_procedure = e.shows.rowed.same_procedure;
            same_kind = e.shows.rowed.same_kind;
          };
          owned = e.shows.owned;
          below = below_same image layout prepared.laid table region region' (over top) e.rest (λ k m low. same k m (omega (arith, low, end))) e.shows.below;
        }

  pub entry_small : r.entry < 4294967296
  entry_small =
      let c = in_code image layout prepared top.instance top.procedure e.procedure e.shows.is in
      number_small c.code top.procedure e.procedure c.there r.entry top.offset e.shows.begins

-- what the code asks of a call of the host
pub record HostFits (region : List ℕ) (r : Registers) (h : Host) : Type 0 where
  pub enough : host_takes h ≤ r.sp
  pub full : r.sp ≤ length region
  pub room : r.sp - host_takes h + host_gives h ≤ length region
  pub entry : r.entry < 4294967296

pub host_fits : (region : List ℕ) (r : Registers) (h : HostProcedure) → CanCall region r h → HostFits region r (host_is h)
host_fits region r h can =
    let sp = sp_is can.image can.layout can.prepared region can.table r can.ample (host_is h) can.calls in
    let enough = can.calls.enough in
    record {
      enough = omega (arith, sp, enough);
      full = full can.image can.layout can.prepared region can.table r can.ample (host_is h) can.calls;
      room = room can.image can.layout can.prepared region can.table r can.ample (host_is h) can.calls;
      entry = entry_small can.image can.layout can.prepared region can.table r can.ample (host_is h) can.calls;
    }
