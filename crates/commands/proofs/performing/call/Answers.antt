-- `commands::performing::call`: the arm tells the command, and its call does what the command does.
-- Assumes nothing.
use Rattle.std.proofs.Common.{arith, rules, refl}
use Rattle.commands.proofs.Performed.{started_not, lent_area, own_lent, own_alone, own_asked, own_periodic}
use Rattle.commands.proofs.performing.call.Goals as goal

pub send-requires : goal.send-requires
send-requires c = record { ready = search rules; area_size_in_bounds = search (rules, lent_area) }

pub tick-requires : goal.tick-requires
tick-requires c = record { ready = search rules; area_size_in_bounds = search (rules, lent_area) }

pub returns-in-Start : goal.returns-in-Start
returns-in-Start c = absurd (started_not c.args.command c.in-Start.is c.requires.command_value)

pub returns-in-Stop : goal.returns-in-Stop
returns-in-Stop c =
    let got = own_alone c.args.bytes.now c.args.area.now c.requires.ready c.in-Stop.is tt refl c.stop.ensures in
    record { area_after = got.0; still_ready = got.1 }

pub returns-in-Send : goal.returns-in-Send
returns-in-Send c =
    let got = own_lent c.args.bytes.now c.args.area.now c.requires.ready c.in-Send.is (omega arith) refl c.send.ensures in
    record { area_after = got.0; still_ready = got.1 }

pub returns-in-Initialise : goal.returns-in-Initialise
returns-in-Initialise c =
    let got = own_alone c.args.bytes.now c.args.area.now c.requires.ready c.in-Initialise.is (omega arith) refl c.initialise.ensures in
    record { area_after = got.0; still_ready = got.1 }

pub returns-in-Object : goal.returns-in-Object
returns-in-Object c =
    let got = own_asked c.args.bytes.now c.args.area.now c.requires.ready c.in-Object.is c.call_of_object.ensures.m_after in
    record { area_after = got.0; still_ready = got.1 }

pub returns-in-Periodic : goal.returns-in-Periodic
returns-in-Periodic c =
    let got = own_periodic c.args.bytes.now c.args.area.now c.requires.ready c.in-Periodic.is c.periodic.ensures in
    record { area_after = got.0; still_ready = got.1 }

pub returns-in-Indication : goal.returns-in-Indication
returns-in-Indication c =
    let got = own_alone c.args.bytes.now c.args.area.now c.requires.ready c.in-Indication.is (λ i. (c.type_inv.bytes i).fits) refl c.indication.ensures in
    record { area_after = got.0; still_ready = got.1 }

pub returns-in-Confirm : goal.returns-in-Confirm
returns-in-Confirm c =
    let got = own_alone c.args.bytes.now c.args.area.now c.requires.ready c.in-Confirm.is tt refl c.confirm.ensures in
    record { area_after = got.0; still_ready = got.1 }

pub returns-in-Tick : goal.returns-in-Tick
returns-in-Tick c =
    let got = own_lent c.args.bytes.now c.args.area.now c.requires.ready c.in-Tick.is tt refl c.tick.ensures in
    record { area_after = got.0; still_ready = got.1 }
