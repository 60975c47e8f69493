-- What the host's procedures that read do, where it is known what comes.
use Rattle.std.proofs.Common.{◌≡◌, ℕ, ◌+◌, ◌-◌, ◌<◌, List, [], ◌∷◌, length, true, false, refl, sym, ap, subst, ◌∙◌, arith}
use Rattle.std.specs.Prelude.{slice_set, if◌then◌else◌}
use Rattle.mesa_types.specs.Operators.{truth}
use Rattle.object_files.specs.declared.image.Image.{Image}
use Rattle.signaller.specs.declared.signal_id.SignalId.TheVariants.{NoInput}
use Rattle.machine_rules.specs.State.{Store, Broken, Stepped, Stops}
use Rattle.machine_rules.specs.LookUps.{ReadChar, EndOfInput}
use Rattle.machine_rules.specs.Moves.{give}
use Rattle.machine_rules.specs.Signals.{raise}
use Rattle.machine_rules.specs.Calls.{read_char, end_of_input, host}
use Rattle.machine_rules.specs.Steps.{Ends, stops}
use Rattle.machine_topmost.specs.declared.registers.Registers.{Registers}
use Rattle.machine_topmost.specs.Flat.{part, with_part}
use Rattle.machine_topmost.proofs.Parts.{part_before, part_there, set_is_replaced}
use Rattle.machine_activations.specs.declared.row.Layout.{Layout}
use Rattle.machine_activations.specs.declared.row.Row.{Row}
use Rattle.machine_activations.specs.Links.{host_takes, host_gives}
use Rattle.machine_activations.specs.Reaching.{Reaches, Shown}
use Rattle.machine_activations.specs.Shows.{IsPrepared, IsAmple}
use Rattle.machine_calls.specs.declared.ahead.Coming.{Coming}
use Rattle.machine_calls.specs.declared.ahead.Coming.TheVariants.{Byte, End}
use Rattle.machine_calls.specs.declared.host.HostProcedure.TheVariants.{Read}
use Rattle.machine_calls.specs.declared.host.Reading.{Reading}
use Rattle.machine_calls.specs.declared.host.Reading.TheVariants.{Next, AtEnd}
use Rattle.machine_calls.specs.declared.reading.ReadSequel.{ReadSequel}
use Rattle.machine_calls.specs.declared.reading.ReadSequel.TheVariants.{Goes as GoesOn, NoInput as RaisesNoInput}
use Rattle.machine_calls.specs.Hosts.{host_is, CallsHost}
use Rattle.machine_calls.specs.Hosting.{CanCall, behind_call, input_after, Comes, Raises, ReadLeads, GoesBehind, ReadsOn, Breaks}
use Rattle.machine_calls.proofs.Behind.{host_fits, call_there, room, gone_on, behind_shows}
use Rattle.machine_calls.proofs.HostWrites.{given}
use Rattle.machine_activations.proofs.Reach.{reaches_so, ends_alike}

-- nothing is taken, and one word is given
takes_none : (reading : Reading) → host_takes (host_is (Read reading)) ≡ 0
takes_none Next = refl
takes_none AtEnd = refl

gives_one : (reading : Reading) → host_gives (host_is (Read reading)) ≡ 1
gives_one Next = refl
gives_one AtEnd = refl

-- there is room for it
pub read_room : (region : List ℕ) (r : Registers) (reading : Reading) (image : Image) (layout : Layout) (table : List Row) → IsPrepared image layout → IsAmple layout region table r.top
    → CallsHost image layout region table r (host_is (Read reading)) → r.sp < length region
read_room region r reading image layout table prepared ample e =
    let f = room image layout prepared region table r ample (host_is (Read reading)) e in
    let t = takes_none reading in let g = gives_one reading in omega (arith, f, t, g)

module _ (image : Image) (layout : Layout) (prepared : IsPrepared image layout) (region : List ℕ) (table : List Row) (r : Registers) (ample : IsAmple layout region table r.top)
    (reading : Reading) (e : CallsHost image layout region table r (host_is (Read reading))) where
  within : r.sp < length region
  within = read_room region r reading image layout table prepared ample e

  module _ (word : ℕ) (region' : List ℕ) (is : region' ≡ slice_set region r.sp word) (s : Stepped) (m n : Store) (reaches : Reaches image s (host image (host_is (Read reading)) e.top e.rest m))
      (gives : host image (host_is (Read reading)) e.top e.rest m ≡ give image (host_takes (host_is (Read reading))) (word ∷ []) (e.top ∷ e.rest) n) where
    end_is : r.sp - host_takes (host_is (Read reading)) ≡ r.sp
    end_is = let t = takes_none reading in omega (arith, t)

    region_is : region' ≡ with_part region r.sp (word ∷ [])
    region_is = is ∙ set_is_replaced region r.sp word within

    -- the word is given
    pub given_shown : Shown image layout region' table (behind_call (Read reading) r) s n
    given_shown =
        let w = within in let t = takes_none reading in
        record {
          top = gone_on image layout prepared region table r ample (host_is (Read reading)) e (word ∷ []);
          rest = e.rest;
          procedure = e.procedure;
          shows = behind_shows image layout prepared region table r ample (host_is (Read reading)) e region' (word ∷ []) (sym (gives_one reading))
              (λ k c l. ap (λ g. part g k c) region_is ∙ part_before region r.sp (word ∷ []) k c (omega (arith, w)) (omega (arith, l, t)))
              (ap (λ k. part region' k 1) end_is ∙ ap (λ g. part g r.sp 1) region_is ∙ part_there region r.sp (word ∷ []) (omega (arith, w)));
          reaches =
              reaches_so image _ _ _ reaches
              (gives ∙ given image (host_takes (host_is (Read reading))) (word ∷ []) e.top e.rest n e.entry.instruction (call_there image layout prepared region table r ample (host_is (Read reading)) e));
        }

-- the rows

module _ (image : Image) (layout : Layout) (prepared : IsPrepared image layout) (region : List ℕ) (table : List Row) (r : Registers) (ample : IsAmple layout region table r.top) where
  pub char_shown : (byte : ℕ) (region' : List ℕ) → region' ≡ slice_set region r.sp byte → (e : CallsHost image layout region table r ReadChar) (s : Stepped) (m : Store)
      → Reaches image s (host image ReadChar e.top e.rest m) → (rest : List ℕ) → m.input ≡ byte ∷ rest
      → Shown image layout region' table (behind_call (Read Next) r) s (record m { input = input_after Next m.input })
  unfolding host read_char
  char_shown byte region' is e s m reaches rest input =
      given_shown image layout prepared region table r ample Next e byte region' is s m (record m { input = input_after Next m.input }) reaches
      (ap (λ i. read_char image i e.top e.rest m) input ∙ ap (λ i. give image 0 (byte ∷ []) (e.top ∷ e.rest) (record m { input = i })) (sym (ap (λ i. input_after Next i) input)))

  pub char_raises : (e : CallsHost image layout region table r ReadChar) (s : Stepped) (m : Store) → Reaches image s (host image ReadChar e.top e.rest m) → m.input ≡ [] → m.faulty ≡ false
      → Raises image layout region table r s (record m { input = input_after Next m.input })
  unfolding host read_char
  char_raises e s m reaches none sound =
      let same : m.input ≡ input_after Next m.input = none ∙ sym (ap (λ i. input_after Next i) none) in
      subst (λ i. Raises image layout region table r s (record m { input = i })) same
      (record {
        top = e.top;
        rest = e.rest;
        procedure = e.procedure;
        shows = e.shows;
        reaches =
            reaches_so image _ _ _ reaches
            (ap (λ i. read_char image i e.top e.rest m) none ∙ ap (λ b. if b then Stops Broken m else raise image NoInput [] e.top e.rest m) sound);
      })

  pub more_shown : (region' : List ℕ) → region' ≡ slice_set region r.sp 0 → (e : CallsHost image layout region table r EndOfInput) (s : Stepped) (m : Store)
      → Reaches image s (host image EndOfInput e.top e.rest m) → (byte : ℕ) (rest : List ℕ) → m.input ≡ byte ∷ rest
      → Shown image layout region' table (behind_call (Read AtEnd) r) s m
  unfolding host end_of_input truth
  more_shown region' is e s m reaches byte rest input =
      given_shown image layout prepared region table r ample AtEnd e 0 region' is s m m reaches (ap (λ i. end_of_input image i e.top e.rest m) input)

  pub end_shown : (region' : List ℕ) → region' ≡ slice_set region r.sp 1 → (e : CallsHost image layout region table r EndOfInput) (s : Stepped) (m : Store)
      → Reaches image s (host image EndOfInput e.top e.rest m) → m.input ≡ [] → m.faulty ≡ false
      → Shown image layout region' table (behind_call (Read AtEnd) r) s m
  unfolding host end_of_input truth
  end_shown region' is e s m reaches none sound =
      given_shown image layout prepared region table r ample AtEnd e 1 region' is s m m reaches
      (ap (λ i. end_of_input image i e.top e.rest m) none ∙ ap (λ b. if b then Stops Broken m else give image 0 (1 ∷ []) (e.top ∷ e.rest) m) sound)

-- Where the registers and the region are as the code leaves them.

pub reads_char : (region region' : List ℕ) (r r' : Registers) (byte : ℕ) → region' ≡ slice_set region r.sp byte → r' ≡ behind_call (Read Next) r → ReadsOn region region' r Next (Byte byte) (GoesOn r')
unfolding ReadLeads Comes
reads_char region region' r r' byte is registers image layout table prepared ample e s m reaches knows =
    subst (λ (k : Registers). Shown image layout region' table k s (record m { input = input_after Next m.input })) (sym registers)
    (char_shown image layout prepared region table r ample byte region' is e s m reaches knows.0 knows.1)

pub reads_none : (region region' : List ℕ) (r : Registers) → region' ≡ region → ReadsOn region region' r Next End RaisesNoInput
unfolding ReadLeads Comes
reads_none region region' r is image layout table prepared ample e s m reaches knows =
    subst (λ (g : List ℕ). Raises image layout g table r s (record m { input = input_after Next m.input })) (sym is)
    (char_raises image layout prepared region table r ample e s m reaches knows.0 knows.1)

pub tells_more : (region region' : List ℕ) (r r' : Registers) (byte : ℕ) → region' ≡ slice_set region r.sp 0 → r' ≡ behind_call (Read AtEnd) r → ReadsOn region region' r AtEnd (Byte byte) (GoesOn r')
unfolding ReadLeads Comes
tells_more region region' r r' byte is registers image layout table prepared ample e s m reaches knows =
    subst (λ (k : Registers). Shown image layout region' table k s m) (sym registers)
    (more_shown image layout prepared region table r ample region' is e s m reaches byte knows.0 knows.1)

pub tells_end : (region region' : List ℕ) (r r' : Registers) → region' ≡ slice_set region r.sp 1 → r' ≡ behind_call (Read AtEnd) r → ReadsOn region region' r AtEnd End (GoesOn r')
unfolding ReadLeads Comes
tells_end region region' r r' is registers image layout table prepared ample e s m reaches knows =
    subst (λ (k : Registers). Shown image layout region' table k s m) (sym registers)
    (end_shown image layout prepared region table r ample region' is e s m reaches knows.0 knows.1)

-- a fault of the input breaks the run
pub breaks : (region : List ℕ) (r : Registers) (reading : Reading) → Breaks region r reading
unfolding host read_char end_of_input
breaks region r Next image layout table e s m reaches none faulty =
    ends_alike image _ _ reaches Broken m (subst (λ x. Ends image x Broken m)
    (sym (ap (λ i. read_char image i e.top e.rest m) none ∙ ap (λ b. if b then Stops Broken m else raise image NoInput [] e.top e.rest m) faulty)) (stops Broken m))
breaks region r AtEnd image layout table e s m reaches none faulty =
    ends_alike image _ _ reaches Broken m (subst (λ x. Ends image x Broken m)
    (sym (ap (λ i. end_of_input image i e.top e.rest m) none ∙ ap (λ b. if b then Stops Broken m else give image 0 (truth true ∷ []) (e.top ∷ e.rest) m) faulty)) (stops Broken m))

abbrev pub pushed_registers : Registers → Registers
pushed_registers r = record { top = r.top; slots = r.slots; sp = r.sp + 1; entry = r.entry + 1 }

pub pushed_behind : (r : Registers) (reading : Reading) → pushed_registers r ≡ behind_call (Read reading) r
pushed_behind r Next = let e : r.sp + 1 ≡ r.sp - 0 + 1 = omega arith in ap (λ k. record { top = r.top; slots = r.slots; sp = k; entry = r.entry + 1 }) e
pushed_behind r AtEnd = let e : r.sp + 1 ≡ r.sp - 0 + 1 = omega arith in ap (λ k. record { top = r.top; slots = r.slots; sp = k; entry = r.entry + 1 }) e

pub goes_behind : (r : Registers) (reading : Reading) (sequel : ReadSequel) → sequel ≡ GoesOn (pushed_registers r) → GoesBehind r reading sequel
goes_behind r reading sequel e = subst (GoesBehind r reading) (sym e) (pushed_behind r reading)

pub reads_so : (region region' : List ℕ) (r : Registers) (reading reading' : Reading) (coming coming' : Coming) (sequel sequel' : ReadSequel) → reading ≡ reading' → coming ≡ coming' → sequel ≡ sequel'
    → ReadsOn region region' r reading' coming' sequel' → ReadsOn region region' r reading coming sequel
reads_so region region' r reading reading' coming coming' sequel sequel' a b d h =
    subst (λ x. ReadsOn region region' r x coming sequel) (sym a) (subst (λ x. ReadsOn region region' r reading' x sequel) (sym b) (subst (λ x. ReadsOn region region' r reading' coming' x) (sym d) h))

-- what the code asks
pub read_fits : (region : List ℕ) (r : Registers) (reading : Reading) → CanCall region r (Read reading) → (r.sp < length region) × (r.entry < 4294967296)
read_fits region r reading can =
    let f = host_fits region r (Read reading) can in
    let room = f.room in let t = takes_none reading in let g = gives_one reading in (omega (arith, room, t, g), f.entry)
