-- Facts about the outputs of runs of a task on files, and about the reasons for which runs stop.
use Rattle.std.proofs.Common.{◌≡◌, ◌<◌, ◌+◌, ◌&&◌, ℕ, Bool, true, false, List, [], ◌∷◌, ◌++◌, length, take, drop, get_or, map, refl, sym, ap, subst, ◌∙◌, append_assoc, append-nil}
use Rattle.std.specs.Prelude.{Option, Some, None, if◌then◌else◌}
use Rattle.std.specs.Io.KnownBytes.{Appends}
use Rattle.std.proofs.lemmas.List.{take_more, map-append, take-append-drop}
use Rattle.biblatex.proofs.WritingFacts.{appends_more, appends_nothing}
use Rattle.bibkit_core.specs.Outcomes.{HasPrinted}
use Rattle.bibkit_core.specs.Running.{AreRun, IsStep, IsTaskPrinted}
use Rattle.bibkit_core.specs.Running.AreRun.{none, next}
use Rattle.bibkit_core.specs.Steps.{AreFirst, HasRun, HasStep, HasStopped, IsNothing}
use Rattle.bibkit_core.specs.declared.run.Stop.{Stop}
use Rattle.bibkit_core.specs.declared.run.Stop.TheVariants.{OutOfMemory}
use Rattle.std.proofs.Math.Bool.{and-true}

and_assoc : (a b c : Bool) → (a && b) && c ≡ a && (b && c)
and_assoc true b c = refl
and_assoc false b c = refl

-- a run is also a run with an equal output and with an equal Boolean for whether all files could be read
run_as : {F T : Type 0} {reads : F → List ℕ → Option (List ℕ) → F → Type 0}
    {prints : T → List ℕ → List ℕ → List ℕ → T → Type 0} {f f' : F} {t t' : T} {names : List (List ℕ)}
    {texts texts' : List ℕ} {b b' : Bool} → AreRun reads prints f t names texts b f' t' → texts ≡ texts' → b ≡ b'
    → AreRun reads prints f t names texts' b' f' t'
run_as {reads = reads} {prints} {f} {f'} {t} {t'} {names} {texts} {texts'} {b} {b'} run same both =
    subst (λ d. AreRun reads prints f t names texts' d f' t') both (subst (λ u. AreRun reads prints f t names u b f' t') same run)

-- a run on files, followed by a step for one more file, is a run on all of them
run_more : {F T : Type 0} {reads : F → List ℕ → Option (List ℕ) → F → Type 0}
    {prints : T → List ℕ → List ℕ → List ℕ → T → Type 0} {f f' f'' : F} {t t' t'' : T}
    {names : List (List ℕ)} {texts : List ℕ} {b : Bool} {name : List ℕ} (text : List ℕ) (is_read : Bool)
    → AreRun reads prints f t names texts b f' t'
    → IsStep reads prints f' t' name text is_read f'' t''
    → AreRun reads prints f t (names ++ name ∷ []) (texts ++ text) (b && is_read) f'' t''
run_more {f'' = f''} {t'' = t''} text is_read none step =
    run_as (next f'' t'' text [] is_read true step none) (append-nil text) (and-true is_read)
run_more text is_read (next f1 t1 first rest b d one more) step =
    run_as (next f1 t1 first (rest ++ text) b (d && is_read) one (run_more text is_read more step))
    (sym (append_assoc first rest text)) (sym (and_assoc b d is_read))

-- a run on files and a step for one more file, with the texts that the output takes, are a run on all of them
pub has_run_more : {F T : Type 0} {reads : F → List ℕ → Option (List ℕ) → F → Type 0}
    {prints : T → List ℕ → List ℕ → List ℕ → T → Type 0} {f f' f'' : F} {t t' t'' : T}
    {k k' k'' : Option (List ℕ)} {names : List (List ℕ)} {b : Bool} {name : List ℕ} {is_read : Bool}
    → HasRun reads prints f t k names b f' t' k'
    → HasStep reads prints f' t' k' name is_read f'' t'' k'' → HasRun reads prints f t k (names ++ name ∷ []) (b && is_read) f'' t'' k''
has_run_more {k = k} {k'} {k''} {is_read = is_read} run step = record {
  text = run.text ++ step.text;
  run = run_more step.text is_read run.run step.step;
  printed = appends_more k k' k'' run.text step.text (run.text ++ step.text) run.printed step.printed refl;
}

-- a run on no files prints nothing
pub has_run_none : {F T : Type 0} {reads : F → List ℕ → Option (List ℕ) → F → Type 0}
    {prints : T → List ℕ → List ℕ → List ℕ → T → Type 0} (f : F) (t : T) (k : Option (List ℕ))
    → HasRun reads prints f t k [] true f t k
has_run_none f t k = record { text = []; run = none; printed = appends_nothing k }

-- the names of the first `i + 1` items are those of the first `i` items, followed by one name
pub names_more : {X : Type 0} (g : X → List ℕ) (xs : List X) (i : ℕ) (d : X) → i < length xs
    → map g (take (i + 1) xs) ≡ map g (take i xs) ++ g (get_or xs i d) ∷ []
names_more g xs i d below = ap (map g) (take_more xs i d below) ∙ map-append g (take i xs) (get_or xs i d ∷ [])

-- the texts that the output takes before the files, for the files and after them are the whole output of the task
pub has_printed : {K F T : Type 0} {taken : K → Option (List ℕ)} {reads : F → List ℕ → Option (List ℕ) → F → Type 0}
    {begins : T → List ℕ} {prints : T → List ℕ → List ℕ → List ℕ → T → Type 0}
    {ends : T → List ℕ → ℕ → Type 0} {f f' : F} {t t' : T} {names : List (List ℕ)} {b : Bool} (k k1 k2 k3 : K)
    (last : List ℕ) (status : ℕ) → Appends (taken k) (taken k1) (begins t)
    → HasRun reads prints f t (taken k1) names b f' t' (taken k2) → ends t' last status → Appends (taken k2) (taken k3) last
    → HasPrinted taken (IsTaskPrinted reads begins prints ends f t names) k k3 (if b then status else 2)
has_printed {taken = taken} {begins = begins} {f' = f'} {t} {t'} {b = b} k k1 k2 k3 last status first run ended printed = record {
  text = begins t ++ (run.text ++ last);
  prints =
      IsTaskPrinted.all
      (record {
        texts = run.text;
        last = last;
        are_read = b;
        files' = f';
        task' = t';
        end_status = status;
        run = run.run;
        ended = ended;
        text_is = refl;
        status_is = refl;
      });
  printed = appends_more (taken k) (taken k1) (taken k3) (begins t) (run.text ++ last) (begins t ++ (run.text ++ last)) first
      (appends_more (taken k1) (taken k2) (taken k3) run.text last (run.text ++ last) run.printed printed refl) refl;
}

-- a run can stop out of memory before it prints anything
pub stopped_at_once : {K : Type 0} {taken : K → Option (List ℕ)} {refusals : K → ℕ}
    {hands_over : K → List ℕ → Bool → K → Type 0} {P : List ℕ → Option ℕ → Type 0} {Unread : Type 0} (k : K)
    → HasStopped taken refusals hands_over P Unread k k OutOfMemory
stopped_at_once k = HasStopped.no_memory refl

-- a stop of the rest of a run, after a text that the output has taken, is a stop of the whole run
pub stopped_after : {K : Type 0} {taken : K → Option (List ℕ)} {refusals : K → ℕ}
    {hands_over : K → List ℕ → Bool → K → Type 0} {P Q : List ℕ → Option ℕ → Type 0} {Unread : Type 0}
    (old mid new : K) {stop : Stop}
    (text : List ℕ) → Appends (taken old) (taken mid) text → refusals mid ≡ refusals old
    → ((more : List ℕ) → P more None → Q (text ++ more) None)
    → HasStopped taken refusals hands_over P ⊥ mid new stop → HasStopped taken refusals hands_over Q Unread old new stop
stopped_after {taken = taken} old mid new text printed same so (HasStopped.refused more prints after) =
    HasStopped.refused (text ++ more) (so more prints) (record {
      between = after.between;
      refused = after.refused;
      printed = appends_more (taken old) (taken mid) (taken after.between) text more (text ++ more) printed after.printed refl;
      same = after.same ∙ same;
      handed = after.handed;
      counted = after.counted;
    })
stopped_after old mid new text printed same so (HasStopped.no_document unread is) = absurd unread
stopped_after old mid new text printed same so (HasStopped.no_memory is) = HasStopped.no_memory (is ∙ same)

-- the reason for a stop is also one with a weaker fact about the texts so far and a weaker fact about the document
pub stopped_so : {K : Type 0} {taken : K → Option (List ℕ)} {refusals : K → ℕ}
    {hands_over : K → List ℕ → Bool → K → Type 0} {P Q : List ℕ → Option ℕ → Type 0} {U V : Type 0} {old new : K}
    {stop : Stop}
    → ((text : List ℕ) → P text None → Q text None) → (U → V) → HasStopped taken refusals hands_over P U old new stop
    → HasStopped taken refusals hands_over Q V old new stop
stopped_so so unread (HasStopped.refused text prints after) = HasStopped.refused text (so text prints) after
stopped_so so unread (HasStopped.no_document is same) = HasStopped.no_document (unread is) same
stopped_so so unread (HasStopped.no_memory is) = HasStopped.no_memory is

-- the names of all files are those of the first `i` files and of the others
pub names_parts : {X : Type 0} (g : X → List ℕ) (xs : List X) (i : ℕ) → map g xs ≡ map g (take i xs) ++ map g (drop i xs)
names_parts g xs i = ap (map g) (sym (take-append-drop i xs)) ∙ map-append g (take i xs) (drop i xs)

-- a stop at a file, after a run on the files before it, is a stop of the run on all files
pub stopped_at_file : {K F T : Type 0} {taken : K → Option (List ℕ)} {refusals : K → ℕ}
    {hands_over : K → List ℕ → Bool → K → Type 0} {reads : F → List ℕ → Option (List ℕ) → F → Type 0}
    {prints : T → List ℕ → List ℕ → List ℕ → T → Type 0}
    {f f' : F} {t t' : T} {b : Bool} {stop : Stop} (names done rest : List (List ℕ)) (old mid new : K)
    → names ≡ done ++ rest → HasRun reads prints f t (taken old) done b f' t' (taken mid)
    → refusals mid ≡ refusals old
    → HasStopped taken refusals hands_over IsNothing ⊥ mid new stop
    → HasStopped taken refusals hands_over (AreFirst reads prints f t names) ⊥ old new stop
stopped_at_file {reads = reads} {prints} {f} {f'} {t} {t'} {b} names done rest old mid new parts run same stop =
    stopped_after old mid new run.text run.printed same
    (λ more none.
    subst (λ text. AreFirst reads prints f t names text None)
    (sym (ap (λ m. run.text ++ m) none ∙ append-nil run.text))
    (record {
      done = done;
      rest = rest;
      are_read = b;
      files' = f';
      task' = t';
      parts = parts;
      run = run.run;
    })) stop

-- a stop before anything is printed is a stop of the task
pub stopped_first : {K F T : Type 0} {taken : K → Option (List ℕ)} {refusals : K → ℕ}
    {hands_over : K → List ℕ → Bool → K → Type 0} {reads : F → List ℕ → Option (List ℕ) → F → Type 0}
    {begins : T → List ℕ}
    {prints : T → List ℕ → List ℕ → List ℕ → T → Type 0} {ends : T → List ℕ → ℕ → Type 0} {f : F} {t : T}
    {names : List (List ℕ)} {old new : K} {stop : Stop}
    → HasStopped taken refusals hands_over IsNothing ⊥ old new stop
    → HasStopped taken refusals hands_over (IsTaskPrinted reads begins prints ends f t names) ⊥ old new stop
stopped_first {reads = reads} {begins} {prints} {ends} {f} {t} {names} stop =
    stopped_so
    (λ text none.
    subst (λ u. IsTaskPrinted reads begins prints ends f t names u None) (sym none) IsTaskPrinted.nothing)
    (λ unread. unread) stop

-- a stop among the files, after the text before them, is a stop of the task
pub stopped_among : {K F T : Type 0} {taken : K → Option (List ℕ)} {refusals : K → ℕ}
    {hands_over : K → List ℕ → Bool → K → Type 0} {reads : F → List ℕ → Option (List ℕ) → F → Type 0}
    {begins : T → List ℕ}
    {prints : T → List ℕ → List ℕ → List ℕ → T → Type 0} {ends : T → List ℕ → ℕ → Type 0} {f : F} {t : T}
    {names : List (List ℕ)} {stop : Stop} (old mid new : K) → Appends (taken old) (taken mid) (begins t)
    → refusals mid ≡ refusals old
    → HasStopped taken refusals hands_over (AreFirst reads prints f t names) ⊥ mid new stop
    → HasStopped taken refusals hands_over (IsTaskPrinted reads begins prints ends f t names) ⊥ old new stop
stopped_among {begins = begins} {t = t} old mid new first same stop =
    stopped_after old mid new (begins t) first same (λ more are. IsTaskPrinted.first are.done are.rest are.parts are.run) stop

-- a stop after the files is a stop of the task
pub stopped_last : {K F T : Type 0} {taken : K → Option (List ℕ)} {refusals : K → ℕ}
    {hands_over : K → List ℕ → Bool → K → Type 0} {reads : F → List ℕ → Option (List ℕ) → F → Type 0}
    {begins : T → List ℕ}
    {prints : T → List ℕ → List ℕ → List ℕ → T → Type 0} {ends : T → List ℕ → ℕ → Type 0} {f f' : F} {t t' : T}
    {b : Bool} {names : List (List ℕ)} {stop : Stop} (old k1 mid new : K)
    → Appends (taken old) (taken k1) (begins t)
    → refusals k1 ≡ refusals old → HasRun reads prints f t (taken k1) names b f' t' (taken mid) → refusals mid ≡ refusals k1
    → HasStopped taken refusals hands_over IsNothing ⊥ mid new stop
    → HasStopped taken refusals hands_over (IsTaskPrinted reads begins prints ends f t names) ⊥ old new stop
stopped_last {names = names} old k1 mid new first same run more stop =
    stopped_among old k1 new first same (stopped_at_file names names [] k1 mid new (sym (append-nil names)) run more stop)

-- if the relation `R` between tasks and states is kept by each file, then a step of a task is a step of each related state
step_seen : {F S T : Type 0} {reads : F → List ℕ → Option (List ℕ) → F → Type 0}
    {prints : T → List ℕ → List ℕ → List ℕ → T → Type 0} {shows : S → List ℕ → List ℕ → List ℕ → S → Type 0}
    (R : T → S → Type 0)
    (one : (t t' : T) (s : S) (name bytes text : List ℕ) → R t s → prints t name bytes text t'
    → (s' : S) × shows s name bytes text s' × R t' s') {f f' : F} {t t' : T} {name text : List ℕ} {b : Bool}
    (s : S)
    → R t s → IsStep reads prints f t name text b f' t' → (s' : S) × IsStep reads shows f s name text b f' s' × R t' s'
step_seen R one {t = t} {t'} {name} {text} s same (IsStep.read bytes reading printing) =
    let seen = one t t' s name bytes text same printing in (seen.0, IsStep.read bytes reading seen.1, seen.2)
step_seen R one s same (IsStep.unread reading) = (s, IsStep.unread reading, same)

-- if the relation `R` between tasks and states is kept by each file, then a run of a task is a run of each related state
run_seen : {F S T : Type 0} {reads : F → List ℕ → Option (List ℕ) → F → Type 0}
    {prints : T → List ℕ → List ℕ → List ℕ → T → Type 0} {shows : S → List ℕ → List ℕ → List ℕ → S → Type 0}
    (R : T → S → Type 0)
    (one : (t t' : T) (s : S) (name bytes text : List ℕ) → R t s → prints t name bytes text t'
    → (s' : S) × shows s name bytes text s' × R t' s') {f f' : F} {t t' : T} {names : List (List ℕ)}
    {texts : List ℕ} {b : Bool} (s : S)
    → R t s → AreRun reads prints f t names texts b f' t' → (s' : S) × AreRun reads shows f s names texts b f' s' × R t' s'
run_seen R one s same none = (s, none, same)
run_seen R one s same (next f1 t1 text texts b d step more) =
    let first = step_seen R one s same step in
    let rest = run_seen R one first.0 first.2 more in
    (rest.0, next f1 first.0 text texts b d first.1 rest.1, rest.2)

-- Let `R` be kept by each file. Let related tasks and states have equal first texts, and let each end of a task be one of the state.
-- Then an output of a task is an output of each related state.
pub printed_seen : {F S T : Type 0} {reads : F → List ℕ → Option (List ℕ) → F → Type 0} {begins : T → List ℕ}
    {opens : S → List ℕ} {prints : T → List ℕ → List ℕ → List ℕ → T → Type 0}
    {shows : S → List ℕ → List ℕ → List ℕ → S → Type 0}
    {ends : T → List ℕ → ℕ → Type 0} {closes : S → List ℕ → ℕ → Type 0} (R : T → S → Type 0)
    (opened : (t : T) (s : S) → R t s → begins t ≡ opens s)
    (one : (t t' : T) (s : S) (name bytes text : List ℕ) → R t s → prints t name bytes text t'
    → (s' : S) × shows s name bytes text s' × R t' s')
    (close : (t : T) (s : S) (text : List ℕ) (status : ℕ) → R t s → ends t text status → closes s text status) {f : F}
    (t : T) (s : S) {names : List (List ℕ)} → R t s → (text : List ℕ) (status : Option ℕ)
    → IsTaskPrinted reads begins prints ends f t names text status → IsTaskPrinted reads opens shows closes f s names text status
printed_seen R opened one close t s same text status IsTaskPrinted.nothing = IsTaskPrinted.nothing
printed_seen {reads = reads} {opens = opens} {shows = shows} {closes = closes} R opened one close {f} t s {names} same
    text status (IsTaskPrinted.first {texts = texts} done rest parts run) =
    subst (λ u. IsTaskPrinted reads opens shows closes f s names (u ++ texts) None) (sym (opened t s same))
    (IsTaskPrinted.first done rest parts (run_seen R one s same run).1)
printed_seen R opened one close t s same text status (IsTaskPrinted.all answer) =
    let seen = run_seen R one s same answer.run in
    IsTaskPrinted.all (record {
      texts = answer.texts;
      last = answer.last;
      are_read = answer.are_read;
      files' = answer.files';
      task' = seen.0;
      end_status = answer.end_status;
      run = seen.1;
      ended = close answer.task' seen.0 answer.last answer.end_status seen.2 answer.ended;
      text_is = answer.text_is ∙ ap (λ u. u ++ (answer.texts ++ answer.last)) (opened t s same);
      status_is = answer.status_is;
    })

-- a whole output is also one with a weaker fact about its text and status
pub printed_so : {K : Type 0} {taken : K → Option (List ℕ)} {P Q : List ℕ → Option ℕ → Type 0} {old new : K}
    {status : ℕ} → ((text : List ℕ) → P text (Some status) → Q text (Some status))
    → HasPrinted taken P old new status → HasPrinted taken Q old new status
printed_so so has = record { text = has.text; prints = so has.text has.prints; printed = has.printed }
