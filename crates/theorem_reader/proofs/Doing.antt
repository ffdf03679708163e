-- How a call comes to what it tells: by the job that its words and its text ask for.
use Rattle.std.proofs.Common.{◌≡◌, ◌⊎◌, ◌≤◌, ℕ, List, [], ◌++◌, length, length-append, Option, Some, None, refl, sym, ap, ◌∙◌, subst, arith, inl, inr}
use Rattle.std.specs.Io.KnownBytes.{Appends}
use Rattle.tk_io.specs.Memory.{SinkState}
use Rattle.byte_streams.specs.Faults.{Rose}
use Rattle.byte_streams.specs.Streams.{CutShort, Input}
use Rattle.cli_words.specs.declared.job.Job.{Job}
use Rattle.cli_words.specs.declared.status.Status.{Status}
use Rattle.cli_words.specs.declared.status.Status.TheVariants as statuses
use Rattle.cli_words.specs.Status.{number_of}
use Rattle.cli_words.specs.Stream.{Stream}
use Rattle.cli_requests.specs.Asking.{IsWarranted}
use Rattle.tkernel_cli.specs.Runs.{Says, Begins}
use Rattle.tkernel_cli.specs.declared.top.Exit.{Exit}
use Rattle.tkernel_cli.specs.Answer.{Does, IsAnswer, IsExact}
use Rattle.theorem_reader.specs.Telling.{Sink, Serves, Fails, IsFront, IsTold, IsRoomy, IsSo}
use Rattle.theorem_reader.specs.Texts.{no_memory}

-- The sink. -----------------------------------------------------------------------------------------------

pub not_risen : (a b : ℕ) → a ≡ 0 → b ≡ 0 → Rose a b → ⊥
not_risen a b first last rose = omega (arith, first, last, rose)

-- its count of faults rose, where it failed
abbrev pub Went : Sink → (before now : Stream) → Type 0
Went Serves before now = Unit {0}
Went Fails before now = Rose before.faults now.faults

-- this is so of a sink that served, or of one that failed
abbrev pub Somehow : (before now : Stream) → (Sink → Type 0) → Type 0
Somehow before now So = (sink : Sink) × Went sink before now × So sink

pub so_then : (before now : Stream) (So Then : Sink → Type 0) → ((sink : Sink) → So sink → Then sink) → Somehow before now So → Somehow before now Then
so_then before now So Then f so = (so.0, so.1, f so.0 so.2)

-- the bytes that a new sink took
pub taken_is : (before now : Option (List ℕ)) (taken text : List ℕ) → before ≡ Some [] → now ≡ Some taken → Appends before now text → taken ≡ text
taken_is None now taken text first last appended = absurd (cc)
taken_is (Some xs) None taken text first last appended = absurd appended
taken_is (Some xs) (Some ys) taken text first last appended =
    let empty : xs ≡ [] = cc in
    let same : ys ≡ taken = cc in
    sym same ∙ appended ∙ ap (λ z. z ++ text) empty

-- .. which are no fewer than those that went out whole
begun_is : (before now : Option (List ℕ)) (taken text : List ℕ) → before ≡ Some [] → now ≡ Some taken → Begins before now text → length text ≤ length taken
begun_is before now taken text first last begun =
    omega (arith, ap length (taken_is before now taken (text ++ begun.0) first last begun.1), length-append text begun.0)

-- A call. -------------------------------------------------------------------------------------------------

-- a call over a sink that was empty and had counted no fault
pub record Call (words : List (List ℕ)) (exit : Exit) (status faults : ℕ) (taken : List ℕ) : Type 0 where
  pub source : Input
  pub source' : Input
  pub sink : Stream
  pub sink' : Stream
  pub empty : sink.told ≡ Some []
  pub sound : sink.faults ≡ 0
  pub taken_is : sink'.told ≡ Some taken
  pub faults_are : sink'.faults ≡ faults
  pub status_is : status ≡ number_of exit.status
  pub answer : IsAnswer words source source' sink sink' exit
  pub exact : IsExact words source source' sink sink' exit

abbrev pub call_of : (words : List (List ℕ)) (exit : Exit) (status : ℕ) (taken : List ℕ) (source source' : Input) (sink sink' : Stream) → sink.told ≡ Some [] → sink.faults ≡ 0
    → sink'.told ≡ Some taken → status ≡ number_of exit.status → IsAnswer words source source' sink sink' exit → IsExact words source source' sink sink' exit
    → Call words exit status sink'.faults taken
call_of words exit status taken source source' sink sink' empty sound last number answer exact = record {
  source = source;
  source' = source';
  sink = sink;
  sink' = sink';
  empty = empty;
  sound = sound;
  taken_is = last;
  faults_are = refl;
  status_is = number;
  answer = answer;
  exact = exact;
}

-- a text of which the sink took a part
pub cut_by : (words : List (List ℕ)) (exit : Exit) (status faults : ℕ) (taken : List ℕ) (call : Call words exit status faults taken) (whole : List ℕ)
    → exit.status ≡ statuses.WriteFault → CutShort call.sink.told call.sink'.told whole → IsTold Fails 6 whole status taken
cut_by words exit status faults taken call whole is put = (
  call.status_is ∙ ap number_of is,
  record { count = put.0; less = put.1; is = taken_is call.sink.told call.sink'.told taken _ call.empty call.taken_is put.2 },
)

-- a text that went out whole, in other words
pub past_by : (words : List (List ℕ)) (exit : Exit) (status faults : ℕ) (taken : List ℕ) (call : Call words exit status faults taken) (text text' : List ℕ) → text ≡ text'
    → Begins call.sink.told call.sink'.told text → length text' ≤ length taken
past_by words exit status faults taken call text text' same begun = subst (λ t. length t ≤ length taken) same (begun_is call.sink.told call.sink'.told taken text call.empty call.taken_is begun)

-- the same text and status, told
pub retold : (sink : Sink) (own own' : ℕ) (whole whole' : List ℕ) (status : ℕ) (taken : List ℕ) → own ≡ own' → whole ≡ whole' → IsTold sink own whole status taken
    → IsTold sink own' whole' status taken
retold Serves own own' whole whole' status taken number text told = (told.0 ∙ number, told.1 ∙ text)
retold Fails own own' whole whole' status taken number text told = (told.0, subst (IsFront taken) text told.1)

-- how it told a text
pub told_how : (words : List (List ℕ)) (exit : Exit) (status faults : ℕ) (taken : List ℕ) (call : Call words exit status faults taken) (own : Status) (whole : List ℕ)
    → Says own whole call.sink call.sink' exit.status → Somehow call.sink call.sink' (λ sink. IsTold sink (number_of own) whole status taken)
told_how words exit status faults taken call own whole said = elim said [
  | inl is ↦ (Serves, tt, (call.status_is ∙ ap number_of is.0, taken_is call.sink.told call.sink'.told taken whole call.empty call.taken_is is.1))
  | inr cut ↦ (Fails, cut.1, cut_by words exit status faults taken call whole cut.0 cut.2)
]

-- this is so of one that served, or of one that failed and counted a fault
pub data IsSoThen (faults : ℕ) (So : Sink → Type 0) : Type 0 where
  Served : So Serves → IsSoThen faults So
  Failed : 1 ≤ faults → So Fails → IsSoThen faults So

-- what is so of its sink
pub so_is : (words : List (List ℕ)) (exit : Exit) (status faults : ℕ) (taken : List ℕ) (call : Call words exit status faults taken) (So : Sink → Type 0) → Somehow call.sink call.sink' So
    → IsSoThen faults So
so_is words exit status faults taken call So (Serves, went, so) = Served so
so_is words exit status faults taken call So (Fails, rose, so) = Failed (omega (arith, call.sound, call.faults_are, rose)) so

-- Its job. ------------------------------------------------------------------------------------------------

-- what a call tells whose words and text ask for this job
pub told_by : (words : List (List ℕ)) (exit : Exit) (status faults : ℕ) (taken : List ℕ) (call : Call words exit status faults taken) (job : Job) (So : Sink → Type 0)
    → IsWarranted words call.source call.source' job → ((sink : Sink) → IsTold sink 8 no_memory status taken → exit.kept ≡ None → exit.tasks ≡ None → So sink)
    → (Does job call.sink call.sink' exit → Somehow call.sink call.sink' So) → IsSoThen faults So
told_by words exit status faults taken call job So warranted wanting done =
    so_is words exit status faults taken call So (elim (call.exact.done job warranted) [
      | inl none ↦ so_then call.sink call.sink' _ So (λ sink told. wanting sink told none.0.1 none.1) (told_how words exit status faults taken call _ _ none.0.0)
      | inr own ↦ done own
    ])

-- a sink that failed has taken as many bytes as it has room for
is_filled : (room : ℕ) (out : SinkState) → (out.faults ≡ 0) ⊎ (length out.taken ≡ room) → 1 ≤ out.faults → length out.taken ≡ room
is_filled room out (inl none) some = absurd (omega (arith, none, some))
is_filled room out (inr filled) some = filled

pub with_room : (room : ℕ) (out : SinkState) (So : Sink → Type 0) → IsRoomy room out → IsSoThen out.faults So → IsSo room out So
with_room room out So roomy (Served so) = inl (roomy.most, so)
with_room room out So roomy (Failed some so) = inr (some, is_filled room out roomy.full some, so)
