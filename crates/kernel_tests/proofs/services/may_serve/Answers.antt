use Rattle.std.proofs.Common.{sym, ◌∙◌, arith}
use Rattle.kernel_entry.specs.Conditions.{CanServe}
use Rattle.kernel_entry.proofs.ShapeLaws.{self_target}
use Rattle.kernel_tests.proofs.services.may_serve.Goals as goal

pub returns-in-Native : goal.returns-in-Native
returns-in-Native c = record { can = λ yes. CanServe.AtBridge (self_target c.args.k.now.mote.cpu.pc 0xF000 yes) }

pub returns-in-Jump : goal.returns-in-Jump
returns-in-Jump c = record { can = λ yes. CanServe.AtQuantum (self_target c.args.k.now.mote.cpu.pc 0xF002 yes) }

pub returns-in-Mem : goal.returns-in-Mem
returns-in-Mem c = record {
  can = λ yes. CanServe.AtMem (self_target c.args.k.now.mote.cpu.pc 0xF004 yes) (sym c.called_shape.ensures.value ∙ c.in-Mem.is)
      (record { paged = c.requires.paged; room = omega arith });
}

pub returns-in-Call : goal.returns-in-Call
returns-in-Call c = record {
  can = λ yes. CanServe.AtPushReturn (self_target c.args.k.now.mote.cpu.pc 0xF006 yes) (sym c.called_shape.ensures.value ∙ c.in-Call.is)
      (record { paged = c.requires.paged; room = omega arith });
}

pub returns-in-Ret : goal.returns-in-Ret
returns-in-Ret c = record {
  can = λ yes. CanServe.AtReturn (self_target c.args.k.now.mote.cpu.pc 0xF008 yes) (sym c.called_shape.ensures.value ∙ c.in-Ret.is)
      (record { paged = c.requires.paged; room = omega arith }) (record { some = omega arith; most = omega arith });
}

pub returns-in-Ind : goal.returns-in-Ind
returns-in-Ind c = record {
  can = λ yes. CanServe.AtIndirect (self_target c.args.k.now.mote.cpu.pc 0xF00A yes) (sym c.called_shape.ensures.value ∙ c.in-Ind.is)
      (record { paged = c.requires.paged; room = omega arith }) (record { some = omega arith; most = omega arith });
}

pub returns-in-SelfJump : goal.returns-in-SelfJump
returns-in-SelfJump c = record {
  can = λ yes. CanServe.AtSelf (self_target c.args.k.now.mote.cpu.pc 0xF00C yes) (sym c.called_shape.ensures.value ∙ c.in-SelfJump.is)
      (record { paged = c.requires.paged; room = omega arith }) (record { some = omega arith; most = omega arith });
}

pub returns-in-Fault : goal.returns-in-Fault
returns-in-Fault c = record {
  can = λ yes. CanServe.AtFault (self_target c.args.k.now.mote.cpu.pc 0xF00E yes) (sym c.called_shape.ensures.value ∙ c.in-Fault.is)
      (record { count = record { some = omega arith; most = omega arith }; timely = c.polls.ensures.timely });
}
