-- `c_buffers::write_interface` meets its contract. Assumes nothing.
use lib.ListN.{length-set}
use Rattle.c_buffers.proofs.InterfaceLaws.{interface_written}
use native.Mathlib.Omega.{arith}
use Rattle.c_buffers.proofs.write_interface.Goals as goal

pub bounds-interface-4 : goal.bounds-interface-4
bounds-interface-4 c = simp length-set (omega (arith, c.requires))

pub bounds-interface-5 : goal.bounds-interface-5
bounds-interface-5 c = simp length-set (omega (arith, c.requires))

pub bounds-interface-6 : goal.bounds-interface-6
bounds-interface-6 c = simp length-set (omega (arith, c.requires))

pub bounds-interface-7 : goal.bounds-interface-7
bounds-interface-7 c = simp length-set (omega (arith, c.requires))

pub bounds-interface-8 : goal.bounds-interface-8
bounds-interface-8 c = simp length-set (omega (arith, c.requires))

pub bounds-interface-9 : goal.bounds-interface-9
bounds-interface-9 c = simp length-set (omega (arith, c.requires))

pub bounds-interface-10 : goal.bounds-interface-10
bounds-interface-10 c = simp length-set (omega (arith, c.requires))

pub bounds-interface-11 : goal.bounds-interface-11
bounds-interface-11 c = simp length-set (omega (arith, c.requires))

pub returns : goal.returns
returns c = interface_written c.args.from c.args.interface.now c.requires
