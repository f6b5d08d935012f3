-- Facts about the names that one call or several calls in turn affect.
use Rattle.std.proofs.Common.{⊎_elim, ◌∙◌, ℕ, List, refl, arith}
use Rattle.bibkit_core.specs.Folder.{Disk, Elapses, IsAsBefore, IsAsBeforeBut}
use Rattle.bibkit_core.specs.ReplaceSteps.{TouchesOnly, TouchesNothing}

-- a call that leaves all names except one as before affects only that name
pub touches_one : (name : List ℕ) (old new : Disk) → new.is_known → IsAsBeforeBut name old new → Elapses old new → TouchesOnly name old new
touches_one name old new known but time = record {
  known = known;
  others = but;
  later = time.later;
  past = λ t other c le ne left.
      ⊎_elim (λ was. was) (λ now. old.counts_now t other c le (but.crash other c ne now))
      (time.nothing_else t other c le left);
}

-- a call that leaves all names as before affects no name
pub touches_none : (old new : Disk) → new.is_known → IsAsBefore old new → Elapses old new → TouchesNothing old new
touches_none old new known same time = record {
  known = known;
  same = same;
  later = time.later;
  past = λ t other c le left.
      ⊎_elim (λ was. was) (λ now. old.counts_now t other c le (same.crash other c now))
      (time.nothing_else t other c le left);
}

-- without any call, no name is affected
pub touches_none_at_first : (disk : Disk) → disk.is_known → TouchesNothing disk disk
touches_none_at_first disk known = record {
  known = known;
  same = record { holds = λ name. refl; crash = λ name c left. left; crash_in = λ name bytes left. left };
  later = omega arith;
  past = λ t other c le left. left;
}

-- calls that affect no name, followed by calls that affect only one name, affect only that name
pub none_then_one : (name : List ℕ) (old mid new : Disk) → TouchesNothing old mid → TouchesOnly name mid new → TouchesOnly name old new
none_then_one name old mid new first next = record {
  known = next.known;
  others = record {
    holds = λ other ne. next.others.holds other ne ∙ first.same.holds other;
    crash = λ other c ne left. first.same.crash other c (next.others.crash other c ne left);
    crash_in = λ other bytes ne left. first.same.crash_in other bytes (next.others.crash_in other bytes ne left);
  };
  later = omega (arith, first.later, next.later);
  past = λ t other c le ne left. first.past t other c le (next.past t other c (omega (arith, le, first.later)) ne left);
}

-- calls that affect no name, followed by calls that affect no name, affect no name
pub none_then_none : (old mid new : Disk) → TouchesNothing old mid → TouchesNothing mid new → TouchesNothing old new
none_then_none old mid new first next = record {
  known = next.known;
  same = record {
    holds = λ other. next.same.holds other ∙ first.same.holds other;
    crash = λ other c left. first.same.crash other c (next.same.crash other c left);
    crash_in = λ other bytes left. first.same.crash_in other bytes (next.same.crash_in other bytes left);
  };
  later = omega (arith, first.later, next.later);
  past = λ t other c le left. first.past t other c le (next.past t other c (omega (arith, le, first.later)) left);
}

-- calls that affect only one name, followed by calls that affect only that name, affect only that name
pub one_then_one : (name : List ℕ) (old mid new : Disk) → TouchesOnly name old mid → TouchesOnly name mid new → TouchesOnly name old new
one_then_one name old mid new first next = record {
  known = next.known;
  others = record {
    holds = λ other ne. next.others.holds other ne ∙ first.others.holds other ne;
    crash = λ other c ne left. first.others.crash other c ne (next.others.crash other c ne left);
    crash_in = λ other bytes ne left. first.others.crash_in other bytes ne (next.others.crash_in other bytes ne left);
  };
  later = omega (arith, first.later, next.later);
  past = λ t other c le ne left. first.past t other c le ne (next.past t other c (omega (arith, le, first.later)) ne left);
}
