-- The procedures of the host do what the source means.
use Rattle.std.proofs.Common.{◌≡◌, ℕ, suc, ◌+◌, ◌<◌, ◌%◌, List, [], ◌∷◌, ◌++◌, Bool, true, false, Some, All, refl, sym, ap, ◌∙◌, subst, arith}
use Rattle.std.specs.Prelude.{if◌then◌else◌}
use Rattle.mesa_base.specs.Decimal.{signed_word}
use Rattle.mesa_types.specs.Typed.{Kinds, NoKinds}
use Rattle.mesa_types.specs.Operators.{truth}
use Rattle.mesa_types.specs.Sound.{a_word}
use Rattle.code_forms.specs.declared.instruction.Instruction.{Instruction}
use Rattle.code_forms.specs.Instructions.{bytes_of}
use Rattle.signaller.specs.declared.signal_id.SignalId.TheVariants as id
use Rattle.source_meaning.specs.Value.{Values, NoValues, Word, nth, word, bytes}
use Rattle.source_meaning.specs.Value as value
use Rattle.source_meaning.specs.Program.{Host, WriteChar, WriteString, WriteDecimal, ReadChar, EndOfInput, NoInput, resumes}
use Rattle.source_meaning.specs.State.{State, Ending, End, Fault, Gives, Broken, Result, give, give_value, give_word, put, read, read_of, peek, peek_of}
use Rattle.source_meaning.specs.Signals.{raise}
use Rattle.source_meaning.specs.Calls as meaning
use Rattle.machine_rules.specs.State as machine
use Rattle.machine_rules.specs.State.{Store, Stepped, Stops}
use Rattle.machine_rules.specs.Words.{push, under}
use Rattle.machine_rules.specs.LookUps as machine_host
use Rattle.machine_rules.specs.Moves as moves
use Rattle.machine_rules.specs.Moves.{with, onward}
use Rattle.machine_rules.specs.Calls as calls
use Rattle.machine_rules.specs.Signals as steps
use Rattle.code_rules.specs.Points.{Points}
use Rattle.code_rules.specs.Reading.{Destination, read as read_code, phrases_around}
use Rattle.agreement_rules.specs.Agreement.{is_faulty, id_of, EndsAs}
use Rattle.agreement_rules.specs.Layout.{Show}
use Rattle.agreement_rules.specs.Reaches.{Reaches}
use Rattle.agreement_rules.proofs.Lifted.{reaches_on, found_there}
use Rattle.agreement_laws.specs.World.{World, Ready, texts_of}
use Rattle.agreement_laws.specs.Standing.{Frames, at, filled, fill}
use Rattle.agreement_laws.specs.Relation.{Ground, Agrees, Beside, standing}
use Rattle.agreement_laws.specs.Contexts.{Site, Context, Inside}
use Rattle.agreement_laws.specs.Answers.{Gave, Valued}
use Rattle.agreement_laws.specs.Promises.{next, SignalsFollow}
use Rattle.agreement_laws.proofs.Control.{stands_at}
use Rattle.agreement_laws.proofs.Going.{reaches_same}
use Rattle.agreement_laws.proofs.HostItems.{the_host, kinds_taken, kinds_given}
use Rattle.agreement_laws.proofs.Shown.{the_word, the_text, show_word, show_none}
use Rattle.agreement_laws.proofs.Signals.{none_shown}
use Rattle.agreement_laws.proofs.Spending.{ended_there}

module _ (W : World) (K : Site) (points : Points Destination) (near : List ℕ) (from to : ℕ) (ctx : Context W K points near from to) where
  -- words are given to what stands at an instruction, which goes on behind it
  pub gives_on : (k : ℕ) (words : List ℕ) (μ : Frames) (m : Store) (o d : ℕ) (operands : List ℕ) (i : Instruction) (around : List ℕ)
      → read_code K.code o ≡ Some (record { instruction = i; depth = d; around = around })
      → Reaches W.image (moves.give W.image k words (filled μ (at K.ground.here o operands) ∷ fill μ K.ground.below) m)
      (standing K.ground (o + bytes_of i) (push words (under k operands)) μ m)
  unfolding moves.give with onward
  gives_on k words μ m o d operands i around is =
      reaches_same W.image _ _ (ap (λ x. with x m λ j. onward j (push words (under k operands)) (filled μ (at K.ground.here o operands)) (fill μ K.ground.below) m)
      (stands_at W K points near from to ctx μ o d operands i around is))

module _ (W : World) (ready : Ready W) (n : ℕ) (signals : SignalsFollow W n) (K : Site) (points : Points Destination) (near : List ℕ) (from to : ℕ)
    (ctx : Context W K points near from to) (i : Instruction) (o d : ℕ) (is : read_code K.code o ≡ Some (record { instruction = i; depth = d; around = near }))
    (inside : Inside W K.ground o o)
    (rest : List ℕ) where
  abbrev G : Ground
  G = K.ground

  abbrev b : ℕ
  b = o + bytes_of i

  abbrev Ok : Kinds → Stepped → Result → Type 0
  Ok ks s r = Valued W (suc n) K near ks b rest s r

  -- values are given to the caller
  gave : (ks : Kinds) (words : List ℕ) (vs : Values) (k : ℕ) (operands : List ℕ) (s : Stepped) (μ : Frames) (m : Store) (σ : State) → under k operands ≡ rest
      → Show (texts_of W) ks vs words → Agrees W (suc n) G μ m σ
      → Reaches W.image s (moves.give W.image k words (filled μ (at G.here o operands) ∷ fill μ G.below) m) → Ok ks s (give (Gives vs) σ)
  unfolding give
  gave ks words vs k operands s μ m σ e shown h r = record {
    words = words;
    shown = shown;
    comes = record {
      frames = μ;
      store = m;
      agrees = h;
      reaches = reaches_on W.image s _ _ r (subst (λ ops. Reaches W.image (moves.give W.image k words (filled μ (at G.here o operands) ∷ fill μ G.below) m)
          (standing G b (push words ops) μ m)) e (gives_on W K points near from to ctx k words μ m o d operands i near is));
    };
  }

  -- with more output, and less input

  written : (μ : Frames) (m : Store) (σ : State) (text : List ℕ) → Agrees W (suc n) G μ m σ
      → Agrees W (suc n) G μ (record m { output = m.output ++ text }) (record σ { output = σ.output ++ text })
  written μ m σ text h = record {
    laid = h.laid;
    beside = record {
      same_control = h.beside.same_control;
      started = h.beside.started;
      globals = h.beside.globals;
      turns = h.beside.turns;
      input = h.beside.input;
      bytes = h.beside.bytes;
      faulty = h.beside.faulty;
      output = ap (λ l. l ++ text) h.beside.output;
    };
    count = h.count;
    falling = h.falling;
    named = h.named;
    enough = h.enough;
  }

  taken : (μ : Frames) (m : Store) (σ : State) (byte : ℕ) (more : List ℕ) → σ.input ≡ byte ∷ more → Agrees W (suc n) G μ m σ
      → Agrees W (suc n) G μ (record m { input = more }) (record σ { input = more })
  taken μ m σ byte more e h = record {
    laid = h.laid;
    beside = record {
      same_control = h.beside.same_control;
      started = h.beside.started;
      globals = h.beside.globals;
      turns = h.beside.turns;
      input = refl;
      bytes = (let all = subst (λ l. All (λ x. x < 256) l) e h.beside.bytes in λ j x lt. all (suc j) x (omega (arith, lt)));
      faulty = h.beside.faulty;
      output = h.beside.output;
    };
    count = h.count;
    falling = h.falling;
    named = h.named;
    enough = h.enough;
  }

  first_byte : (μ : Frames) (m : Store) (σ : State) (byte : ℕ) (more : List ℕ) → σ.input ≡ byte ∷ more → Agrees W (suc n) G μ m σ → byte < 65536
  first_byte μ m σ byte more e h =
      let all = subst (λ l. All (λ x. x < 256) l) e h.beside.bytes in
      let lt = all 0 byte (omega arith) in omega (arith, lt)

  -- no input is left
  no_input : (s : Stepped) (μ : Frames) (m : Store) (σ : State) → Agrees W (suc n) G μ m σ
      → Reaches W.image s (steps.raise W.image id.NoInput [] (filled μ (at G.here o rest)) (fill μ G.below) m)
      → Ok a_word s (raise W.program (next W n) K.meant NoInput NoValues σ)
  unfolding id_of resumes
  no_input s μ m σ h r =
      signals.raise K points near from to NoInput NoKinds NoKinds NoValues [] o rest μ m σ (λ s vs σ. Gave W (suc n) G a_word b rest s vs σ)
      ctx (found_there K.code.entries o (phrases_around K.code.routine.phrases o) _ is).1 inside (refl, refl) (show_none (texts_of W)) h
      (λ s us given ν l τ takes. absurd (let z : ⊥ = cc in z)) s r

  broken : (s : Stepped) (m : Store) (σ : State) → Beside W G.control m σ → Reaches W.image s (Stops machine.Broken m) → Ok a_word s (give Broken σ)
  unfolding give EndsAs
  broken s m σ h r = ended_there W Broken machine.Broken s m σ G.control refl r h

  reads : (input : List ℕ) (ending : Ending) (s : Stepped) (μ : Frames) (m : Store) (σ : State) → σ.input ≡ input → σ.ending ≡ ending → Agrees W (suc n) G μ m σ
      → Reaches W.image s (calls.read_char W.image input (filled μ (at G.here o rest)) (fill μ G.below) m)
      → Ok a_word s (read_of input ending (λ b. give_word b) (raise W.program (next W n) K.meant NoInput NoValues) σ)
  unfolding read_of calls.read_char give_word give_value is_faulty
  reads (byte ∷ more) ending s μ m σ e d h r =
      gave a_word (byte ∷ []) (value.one (Word byte)) 0 rest s μ (record m { input = more }) (record σ { input = more }) refl
      (show_word (texts_of W) byte (first_byte μ m σ byte more e h)) (taken μ m σ byte more e h) r
  reads [] End s μ m σ e d h r =
      let f = h.beside.faulty ∙ ap is_faulty d in
      no_input s μ m σ h (subst (λ x. Reaches W.image s (if x then Stops machine.Broken m
      else steps.raise W.image id.NoInput [] (filled μ (at G.here o rest)) (fill μ G.below) m)) f r)
  reads [] Fault s μ m σ e d h r =
      let f = h.beside.faulty ∙ ap is_faulty d in
      broken s m σ h.beside (subst (λ x. Reaches W.image s (if x then Stops machine.Broken m
      else steps.raise W.image id.NoInput [] (filled μ (at G.here o rest)) (fill μ G.below) m)) f r)

  truth_small : (t : Bool) → truth t < 65536
  unfolding truth
  truth_small true = omega arith
  truth_small false = omega arith

  peeked : (t : Bool) (s : Stepped) (μ : Frames) (m : Store) (σ : State) → Agrees W (suc n) G μ m σ
      → Reaches W.image s (moves.give W.image 0 (truth t ∷ []) (filled μ (at G.here o rest) ∷ fill μ G.below) m) → Ok a_word s (give_word (truth t) σ)
  unfolding give_word give_value
  peeked t s μ m σ h r = gave a_word (truth t ∷ []) (value.one (Word (truth t))) 0 rest s μ m σ refl (show_word (texts_of W) (truth t) (truth_small t)) h r

  peeks : (input : List ℕ) (ending : Ending) (s : Stepped) (μ : Frames) (m : Store) (σ : State) → σ.ending ≡ ending → Agrees W (suc n) G μ m σ
      → Reaches W.image s (calls.end_of_input W.image input (filled μ (at G.here o rest)) (fill μ G.below) m)
      → Ok a_word s (peek_of input ending (λ t. give_word (truth t)) σ)
  unfolding peek_of calls.end_of_input is_faulty
  peeks (byte ∷ more) ending s μ m σ d h r = peeked false s μ m σ h r
  peeks [] End s μ m σ d h r =
      let f = h.beside.faulty ∙ ap is_faulty d in
      peeked true s μ m σ h (subst (λ x. Reaches W.image s (if x then Stops machine.Broken m
      else moves.give W.image 0 (truth true ∷ []) (filled μ (at G.here o rest) ∷ fill μ G.below) m)) f r)
  peeks [] Fault s μ m σ d h r =
      let f = h.beside.faulty ∙ ap is_faulty d in
      broken s m σ h.beside (subst (λ x. Reaches W.image s (if x then Stops machine.Broken m
      else moves.give W.image 0 (truth true ∷ []) (filled μ (at G.here o rest) ∷ fill μ G.below) m)) f r)

  -- the arguments are on the operands
  pub host_follows : (h : Host) (vs : Values) (words : List ℕ) → Show (texts_of W) (kinds_taken h) vs words → (s : Stepped) (μ : Frames) (m : Store) (σ : State)
      → Agrees W (suc n) G μ m σ
      → Reaches W.image s (calls.host W.image (the_host h) (filled μ (at G.here o (push words rest))) (fill μ G.below) m)
      → Ok (kinds_given h) s (meaning.host W.program (next W n) K.meant h vs σ)
  unfolding meaning.host calls.host calls.host_write the_host put read peek nth word bytes value.one a_word
  host_follows WriteChar vs words shown s μ m σ h r =
      let x = the_word (texts_of W) vs words shown in
      let text = x.word % 256 ∷ [] in
      subst (λ v. Ok NoKinds s (put (word (nth v 0) % 256 ∷ []) (give (Gives NoValues)) σ)) (sym x.is)
      (gave NoKinds [] NoValues 1 (x.word ∷ rest) s μ (record m { output = m.output ++ text }) (record σ { output = σ.output ++ text }) refl
      (show_none (texts_of W)) (written μ m σ text h)
      (subst (λ l. Reaches W.image s (calls.host W.image machine_host.WriteChar (filled μ (at G.here o (push l rest))) (fill μ G.below) m)) x.words r))
  host_follows WriteString vs words shown s μ m σ h r =
      let x = the_text (texts_of W) vs words shown in
      let text = texts_of W x.first x.second in
      subst (λ v. Ok NoKinds s (put (bytes (nth v 0)) (give (Gives NoValues)) σ)) (sym x.is)
      (gave NoKinds [] NoValues 2 (x.second ∷ x.first ∷ rest) s μ (record m { output = m.output ++ text }) (record σ { output = σ.output ++ text }) refl
      (show_none (texts_of W)) (written μ m σ text h)
      (subst (λ l. Reaches W.image s (calls.host W.image machine_host.WriteString (filled μ (at G.here o (push l rest))) (fill μ G.below) m)) x.words r))
  host_follows WriteDecimal vs words shown s μ m σ h r =
      let x = the_word (texts_of W) vs words shown in
      let text = signed_word x.word in
      subst (λ v. Ok NoKinds s (put (signed_word (word (nth v 0))) (give (Gives NoValues)) σ)) (sym x.is)
      (gave NoKinds [] NoValues 1 (x.word ∷ rest) s μ (record m { output = m.output ++ text }) (record σ { output = σ.output ++ text }) refl
      (show_none (texts_of W)) (written μ m σ text h)
      (subst (λ l. Reaches W.image s (calls.host W.image machine_host.WriteDecimal (filled μ (at G.here o (push l rest))) (fill μ G.below) m)) x.words r))
  host_follows ReadChar vs words shown s μ m σ h r =
      let none = none_shown W NoKinds vs words refl shown in
      reads σ.input σ.ending s μ m σ refl refl h
      (subst (λ l. Reaches W.image s (calls.read_char W.image l (filled μ (at G.here o rest)) (fill μ G.below) m)) h.beside.input
      (subst (λ l. Reaches W.image s (calls.read_char W.image m.input (filled μ (at G.here o (push l rest))) (fill μ G.below) m)) none r))
  host_follows EndOfInput vs words shown s μ m σ h r =
      let none = none_shown W NoKinds vs words refl shown in
      peeks σ.input σ.ending s μ m σ refl h
      (subst (λ l. Reaches W.image s (calls.end_of_input W.image l (filled μ (at G.here o rest)) (fill μ G.below) m)) h.beside.input
      (subst (λ l. Reaches W.image s (calls.end_of_input W.image m.input (filled μ (at G.here o (push l rest))) (fill μ G.below) m)) none r))
