-- What a call through a link finds: a link to a procedure, its words on the operand stack, and something like it to which it is bound.
use Rattle.std.proofs.Common.{◌≡◌, ℕ, zero, suc, ◌+◌, ◌-◌, ◌<◌, ◌≤◌, List, length, get_or, Option, Some, None, refl, sym, ap, subst, ◌∙◌, arith}
use Rattle.std.specs.Prelude.{slice_get, IsSome, IsSomeAnd, option_and_then}
use Rattle.std.proofs.Math.Logic.{∥∥₁_elim}
use Rattle.std.proofs.Math.Bridge.{le_prop}
use Rattle.std.proofs.lemmas.Option.{none-some, same_Some, slice_get-get_or}
use Rattle.code_forms.specs.declared.instruction.Instruction.TheVariants.{CallLink}
use Rattle.code_forms.specs.declared.module_code.CodeEntry.{CodeEntry}
use Rattle.code_forms.specs.declared.module_code.CodeKind.{CodeKind}
use Rattle.code_forms.specs.declared.module_code.CodeKind.TheVariants.{Procedure, Signal, Error}
use Rattle.code_forms.specs.declared.module_code.CodeLink.{CodeLink}
use Rattle.code_forms.specs.declared.module_code.CodeProcedure.{CodeProcedure}
use Rattle.code_forms.specs.declared.module_code.ModuleCode.{ModuleCode}
use Rattle.code_forms.specs.Operands.{IsCalled, CalledLink, OperandsFit}
use Rattle.code_forms.specs.Ranges.{IsBody}
use Rattle.code_forms.specs.Regions.{region_at}
use Rattle.code_forms.specs.Routine.{routine, moves, link_words, goes_on}
use Rattle.object_files.specs.declared.image.Image.{Image}
use Rattle.object_files.specs.declared.image.Link.{Link}
use Rattle.object_files.specs.declared.image.Link.TheVariants.{Wanted, To}
use Rattle.machine_rules.specs.LookUps.{code_of, procedure_of, called, link_of, bound_to, Host, host_of}
use Rattle.machine_topmost.specs.declared.registers.Registers.{Registers}
use Rattle.machine_activations.specs.declared.row.Layout.{Layout}
use Rattle.machine_activations.specs.declared.row.Row.{Row}
use Rattle.machine_activations.specs.Below.{GoesOn, Waits}
use Rattle.machine_activations.specs.Calling.{Enters}
use Rattle.machine_activations.specs.Links.{host_takes, host_gives, IsLike, IsOfInstance, IsOfHost, IsBoundLike}
use Rattle.machine_activations.specs.Shows.{IsPrepared}
use Rattle.machine_activations.proofs.Called.{runs_here, waits_by}
use Rattle.machine_activations.proofs.Located.{in_code}
use Rattle.machine_activations.proofs.Standing.{procedure_here}
use Rattle.machine_activations.proofs.Starting.{has_body}
use Rattle.machine_calls.specs.Hosts.{CallsHost}
use Rattle.machine_calls.specs.Linking.{CallsLink, EntersBody}

pub some_and : {X : Type 0} (o : Option X) (P : X → Type 0) → IsSomeAnd o P → (x : X) × (o ≡ Some x) × P x
some_and None P h = absurd h
some_and (Some x) P h = (x, refl, h)

is_called : (k : CodeKind) → IsCalled k → k ≡ Procedure
is_called Procedure h = refl
is_called Signal h = absurd h
is_called Error h = absurd h

called_link : (o : Option CodeLink) → CalledLink o → (l : CodeLink) × (o ≡ Some l) × (l.kind ≡ Procedure)
called_link None h = absurd h
called_link (Some l) h = (l, refl, is_called l.kind h)

-- the called procedure is above 0
pub called_is : (image : Image) (j n : ℕ) (q : CodeProcedure) → called image j n ≡ Some q → (0 < n) × (procedure_of image j n ≡ Some q)
unfolding called
called_is image j zero q is = absurd (none-some q is)
called_is image j (suc n) q is = (omega arith, is)

-- a body takes no arguments
pub no_arguments : (m : ModuleCode) (p : CodeProcedure) → slice_get m.procedures 0 ≡ Some p → p.args ≡ 0
no_arguments m p there =
    let low = ∥∥₁_elim m.ranges le_prop (λ r. (let b : IsBody (Some p) = subst IsBody there r.body in let a = b.0 in let z : p.args ≤ 0 = omega (arith, a) in z)) in omega (arith, low)

-- the link that is called at an entry
pub record LinkIs (image : Image) (p : CodeProcedure) (entry j k depth : ℕ) : Type 0 where
  pub said : CodeLink
  pub kind : said.kind ≡ Procedure
  pub enough : said.args ≤ depth
  pub next : GoesOn p entry (depth - said.args + said.results)
  pub bound : Link
  pub is_bound : bound_to image j k ≡ Some bound
  pub like : IsBoundLike image said bound

module _ (image : Image) (layout : Layout) (prepared : IsPrepared image layout) (code : ModuleCode) (j n : ℕ) (p : CodeProcedure) (is_code : code_of image j ≡ Some code) (is : procedure_of image j n ≡ Some p) where
  pub link_is : (entry k : ℕ) (e : CodeEntry) → slice_get p.code entry ≡ Some e → e.instruction ≡ CallLink k → LinkIs image p entry j k e.depth
  unfolding link_of
  link_is entry k e at calls =
      let runs = runs_here image layout prepared code j n p is_code is entry e at in
      let own : CalledLink (slice_get code.links k) = subst (λ i. OperandsFit (routine code p) (region_at p.phrases e.at) i) calls runs.operands.own in
      let l = called_link (slice_get code.links k) own in
      let said : CodeLink = l.0 in
      let words : moves (routine code p) (CallLink k) ≡ link_words (Some said) = ap link_words l.1 in
      let takes : (moves (routine code p) e.instruction).takes ≡ said.args = ap (λ i. (moves (routine code p) i).takes) calls ∙ ap (λ w. w.takes) words in
      let puts : (moves (routine code p) e.instruction).puts ≡ said.results = ap (λ i. (moves (routine code p) i).puts) calls ∙ ap (λ w. w.puts) words in
      let next = runs.next (ap (λ i. goes_on (routine code p) i) calls) in
      let enough = runs.enough in
      let there : link_of image j k ≡ Some said = ap (λ o. option_and_then (λ (m : ModuleCode). slice_get m.links k) o) is_code ∙ l.1 in
      let b = some_and (bound_to image j k) _ (prepared.links j k said there) in
      record {
        said = said;
        kind = l.2;
        enough = omega (arith, takes, enough);
        next = record { next = next.0; is = next.1; deep = let d = next.2 in omega (arith, d, takes, puts) };
        bound = b.0;
        is_bound = b.1;
        like = b.2;
      }

-- what it is bound to is like the link
pub record LinkFits (image : Image) (p : CodeProcedure) (entry depth : ℕ) (bound : Link) : Type 0 where
  pub said : CodeLink
  pub kind : said.kind ≡ Procedure
  pub enough : said.args ≤ depth
  pub next : GoesOn p entry (depth - said.args + said.results)
  pub like : IsBoundLike image said bound

module _ (image : Image) (layout : Layout) (prepared : IsPrepared image layout) (region : List ℕ) (table : List Row) (r : Registers) (k : ℕ) (e : CallsLink image layout region table r k) where
  abbrev pub depth : ℕ
  depth = length e.top.operands

  pub deep : depth ≡ e.entry.depth
  deep = e.shows.deep e.entry e.fetched

  pub link_fits : LinkFits image e.procedure r.entry depth e.bound
  link_fits =
      let c = in_code image layout prepared e.top.instance e.top.procedure e.procedure e.shows.is in
      let l = link_is image layout prepared c.code e.top.instance e.top.procedure e.procedure c.is e.shows.is r.entry k e.entry e.fetched e.calls in
      let d = deep in
      let same : l.bound ≡ e.bound = same_Some l.bound e.bound (sym l.is_bound ∙ e.is_bound) in
      let enough = l.enough in
      record {
        said = l.said;
        kind = l.kind;
        enough = omega (arith, d, enough);
        next = subst (λ n. GoesOn e.procedure r.entry (n - l.said.args + l.said.results)) (sym d) l.next;
        like = subst (λ b. IsBoundLike image l.said b) same l.like;
      }

  -- Bound to a procedure of the host.

  module _ (wanted : ℕ) (is : e.bound ≡ Wanted wanted) where
    pub of_host : IsSomeAnd (host_of image wanted) (λ h. IsLike link_fits.said Procedure (host_takes h) (host_gives h))
    of_host =
        let f = link_fits in
        let like : IsBoundLike image f.said (Wanted wanted) = subst (λ b. IsBoundLike image f.said b) is f.like in
        subst (λ kind. IsOfHost image f.said kind wanted) f.kind like

    pub host_there : IsSome (host_of image wanted)
    host_there = let s = some_and (host_of image wanted) _ of_host in subst (λ (o : Option Host). IsSome o) (sym s.1) refl

    unfoldable pub calls_host : (h : Host) → host_of image wanted ≡ Some h → CallsHost image layout region table r h
    calls_host h found =
        let f = link_fits in
        let s = some_and (host_of image wanted) _ of_host in
        let same : s.0 ≡ h = same_Some s.0 h (sym s.1 ∙ found) in
        let args : f.said.args ≡ host_takes h = s.2.1 ∙ ap host_takes same in
        let results : f.said.results ≡ host_gives h = s.2.2 ∙ ap host_gives same in
        let enough = f.enough in
        record {
          top = e.top;
          rest = e.rest;
          procedure = e.procedure;
          shows = e.shows;
          entry = e.entry;
          fetched = e.fetched;
          link = k;
          calls = e.calls;
          enough = omega (arith, args, enough);
          next = subst (λ n. GoesOn e.procedure r.entry (depth - n + host_gives h)) args (subst (λ n. GoesOn e.procedure r.entry (depth - f.said.args + n)) results f.next);
        }

  -- Bound to a procedure of an instance.

  module _ (j n : ℕ) (is : e.bound ≡ To j n) where
    of_instance : IsSomeAnd (called image j n) (λ (q : CodeProcedure). IsLike link_fits.said Procedure q.args q.results)
    of_instance =
        let f = link_fits in
        let like : IsBoundLike image f.said (To j n) = subst (λ b. IsBoundLike image f.said b) is f.like in
        subst (λ kind. IsOfInstance image f.said kind j n) f.kind like

    pub called_there : (q : CodeProcedure) × (called image j n ≡ Some q) × IsLike link_fits.said Procedure q.args q.results
    called_there = some_and (called image j n) _ of_instance

    pub procedure_some : IsSome (procedure_of image j n)
    procedure_some = let q = called_there in let i = called_is image j n q.0 q.1 in subst (λ (o : Option CodeProcedure). IsSome o) (sym i.1) refl

    unfoldable pub enters_called : (x : CodeProcedure) → procedure_of image j n ≡ Some x → Enters image layout region table r x j n
    enters_called x found =
        let f = link_fits in
        let q = called_there in
        let i = called_is image j n q.0 q.1 in
        let same : q.0 ≡ x = same_Some q.0 x (sym i.1 ∙ found) in
        let args : f.said.args ≡ x.args = q.2.1 ∙ ap (λ (p : CodeProcedure). p.args) same in
        let results : f.said.results ≡ x.results = q.2.2 ∙ ap (λ (p : CodeProcedure). p.results) same in
        let enough = f.enough in
        record {
          top = e.top;
          rest = e.rest;
          procedure = e.procedure;
          shows = e.shows;
          is = found;
          enough = omega (arith, args, enough);
          waits = waits_by image j n e.procedure x r.entry (depth - x.args) i.0 found
              (subst (λ n. GoesOn e.procedure r.entry (depth - n + x.results)) args (subst (λ n. GoesOn e.procedure r.entry (depth - f.said.args + n)) results f.next));
        }

    -- the body of that instance
    unfoldable pub enters_body : EntersBody image layout region table r j
    unfolding Waits
    enters_body =
        let q = called_there in
        let i = called_is image j n q.0 q.1 in
        let c = in_code image layout prepared j n q.0 i.1 in
        let body = get_or c.code.procedures 0 q.0 in
        let there = slice_get-get_or c.code.procedures 0 q.0 (has_body c.code) in
        let none = no_arguments c.code body there in
        let d = deep in
        record {
          body = body;
          none = none;
          enters = record {
            top = e.top;
            rest = e.rest;
            procedure = e.procedure;
            shows = e.shows;
            is = procedure_here image j 0 body c.code c.is there;
            enough = omega (arith, none);
            waits = record { here = e.entry; is = e.fetched; link = k; calls = e.calls; deep = omega (arith, none, d) };
          };
        }
