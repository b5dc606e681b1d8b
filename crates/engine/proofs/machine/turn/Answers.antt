use Rattle.engine.proofs.machine.turn.Goals as goal

pub returns-in-On : goal.returns-in-On
returns-in-On c = rw c.in-On.is c.power.ensures

pub returns-in-Said : goal.returns-in-Said
returns-in-Said c = rw c.in-Said.is c.command.ensures
