-- Each way puts its parts one after the other; together they are the command, spelled.
use Rattle.std.proofs.Common.{◌++◌, vec_items, sym, ap, ◌∙◌, append_assoc, append-nil}
use Rattle.pages.specs.Bytes.{eight, with_length}
use Rattle.records.specs.Command.{event_spelled, numbers, spelled}
use Rattle.station.specs.Said.{command_of, event_of}
use Rattle.station.proofs.Chain.{more, two_then}
use Rattle.station.proofs.spell.put_command.Goals as goal

pub returns-in_ok-put_text-in-Join : goal.returns-in_ok-put_text-in-Join
unfolding spelled
returns-in_ok-put_text-in-Join c =
    (more _ c.in_ok-put_code-in-Join.ensures (c.in_ok-put_text-in-Join.ensures ∙ ap (λ l. vec_items c.put_code.new.out ++ with_length l) c.as_slice.ensures.value) ∙ simp append_assoc)
    ∙ ap (λ k. vec_items c.args.out.now ++ spelled (command_of k)) (sym c.in-Join.is)

pub returns-in_ok-put_zone-in-Zone : goal.returns-in_ok-put_zone-in-Zone
unfolding spelled
returns-in_ok-put_zone-in-Zone c =
    (more _ (more _ c.in_ok-put_code-in-Zone.ensures c.in_ok-push-in-Zone.ensures.items) c.in_ok-put_zone-in-Zone.ensures ∙ simp append_assoc)
    ∙ ap (λ k. vec_items c.args.out.now ++ spelled (command_of k)) (sym c.in-Zone.is)

pub returns-in_ok-put_event-in-Put : goal.returns-in_ok-put_event-in-Put
unfolding spelled
returns-in_ok-put_event-in-Put c =
    (more _ c.in_ok-put_code-in-Put.ensures c.in_ok-put_event-in-Put.ensures ∙ simp (append_assoc, append-nil))
    ∙ ap (λ k. vec_items c.args.out.now ++ spelled (command_of k)) (sym c.in-Put.is)

pub returns-in_ok-put_event-in-Change : goal.returns-in_ok-put_event-in-Change
unfolding spelled
returns-in_ok-put_event-in-Change c =
    (more _ c.in_ok-put_code-in-Change.ensures c.in_ok-put_event-in-Change.ensures
    ∙ two_then (vec_items c.args.out.now) (eight c.in-Change.person) (eight c.in-Change.number) (event_spelled (event_of c.in-Change.event)) 4)
    ∙ ap (λ k. vec_items c.args.out.now ++ spelled (command_of k)) (sym c.in-Change.is)

pub returns-in_ok-put_code-in-DropEvent : goal.returns-in_ok-put_code-in-DropEvent
unfolding spelled
returns-in_ok-put_code-in-DropEvent c =
    (c.in_ok-put_code-in-DropEvent.ensures ∙ simp append-nil)
    ∙ ap (λ k. vec_items c.args.out.now ++ spelled (command_of k)) (sym c.in-DropEvent.is)

pub returns-in_ok-put_code-in-Skip : goal.returns-in_ok-put_code-in-Skip
unfolding spelled
returns-in_ok-put_code-in-Skip c =
    (c.in_ok-put_code-in-Skip.ensures ∙ simp (append_assoc, append-nil))
    ∙ ap (λ k. vec_items c.args.out.now ++ spelled (command_of k)) (sym c.in-Skip.is)

pub returns-in_ok-put_code-in-List : goal.returns-in_ok-put_code-in-List
unfolding spelled
returns-in_ok-put_code-in-List c =
    (c.in_ok-put_code-in-List.ensures ∙ simp (append_assoc, append-nil))
    ∙ ap (λ k. vec_items c.args.out.now ++ spelled (command_of k)) (sym c.in-List.is)

pub returns-in_ok-put_eights-in-Busy : goal.returns-in_ok-put_eights-in-Busy
unfolding spelled
returns-in_ok-put_eights-in-Busy c =
    (more _ (more _ c.in_ok-put_code-in-Busy.ensures (c.in_ok-put_numbers-in-Busy.ensures ∙ ap (λ l. vec_items c.put_code-in-Busy.new.out ++ numbers l) c.as_slice-in-Busy.ensures.value)) c.in_ok-put_eights-in-Busy.ensures ∙ simp (append_assoc, append-nil))
    ∙ ap (λ k. vec_items c.args.out.now ++ spelled (command_of k)) (sym c.in-Busy.is)

pub returns-in_ok-put_eights-in-Free : goal.returns-in_ok-put_eights-in-Free
unfolding spelled
returns-in_ok-put_eights-in-Free c =
    (more _ (more _ c.in_ok-put_code-in-Free.ensures (c.in_ok-put_numbers-in-Free.ensures ∙ ap (λ l. vec_items c.put_code-in-Free.new.out ++ numbers l) c.as_slice-in-Free.ensures.value)) c.in_ok-put_eights-in-Free.ensures ∙ simp (append_assoc, append-nil))
    ∙ ap (λ k. vec_items c.args.out.now ++ spelled (command_of k)) (sym c.in-Free.is)

pub returns-in_ok-put_code-in-Next : goal.returns-in_ok-put_code-in-Next
unfolding spelled
returns-in_ok-put_code-in-Next c =
    (c.in_ok-put_code-in-Next.ensures ∙ simp append-nil)
    ∙ ap (λ k. vec_items c.args.out.now ++ spelled (command_of k)) (sym c.in-Next.is)

pub returns-in_ok-put_code-in-Shown : goal.returns-in_ok-put_code-in-Shown
unfolding spelled
returns-in_ok-put_code-in-Shown c =
    (c.in_ok-put_code-in-Shown.ensures ∙ simp append-nil)
    ∙ ap (λ k. vec_items c.args.out.now ++ spelled (command_of k)) (sym c.in-Shown.is)
