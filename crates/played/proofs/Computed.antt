-- All that computing the machine unfolds: who unfolds `computed` unfolds what its line names. Assumes nothing.
use lib.Ieee.{add, sub, mul, div, neg, le, lt, eq, is_nan, of_int, of_bits, to_bits, to_signed, to_unsigned, round}
use Rattle.casts.specs.Arithmetic.{size_of}
use Rattle.casts.specs.Cast.{narrowed, floored, two_to}
use Rattle.casts.specs.Step.{step_of}
use Rattle.stage.specs.Stage.{identity}
use Rattle.stage.specs.System.{through}
use Rattle.elementary.specs.Elementary.{down, SIN, COS, EXP, LN, POW, TANH, SINH}
use Rattle.stream.specs.Stream.{flushed, gain_of_db}
use Rattle.onepole.specs.OnePole.{pole_of, one_pole_at, one_pole_step, tilt_step, lift_of, one_pole_at_rest}
use Rattle.biquad.specs.Cookbook.{normalized, angle_of, lpf, hpf, bpf, lowpass_at, highpass_at, bandpass_at, butter_q, lowpass_retuned}
use Rattle.biquad.specs.Section.{section_at, section_step, retuned, lowpass_step, section_at_rest, lowpass_at_rest}
use Rattle.delay.specs.Delay.{power_from, ring_of, tap_of, all_zero}
use Rattle.ramp.specs.Ramp.{held, shaped, ramp_at, toward}
use Rattle.sidechain.specs.Sidechain.{sidechain_gain}
use Rattle.duck.specs.Duck.{marks_at, times_gains, duck_step}
use Rattle.rate.specs.Ceiling.{limit_of, ceiling_rate}
use Rattle.rate.specs.Lengths.{rounded, ceil_of, samples_at}
use Rattle.rate.specs.Plate.{scaled, predelay_of, excursion_of, reach_of, input_rate, left_taps, right_taps, half_rate, left_rate, right_rate, trip_of, decay_of, diffusion_of, damping_of, highpass_of, plate_rate}
use Rattle.rate.specs.Rate.{rate_of}
use Rattle.rate.specs.Tape.{warp_of, wow_of, flutter_of, duck_rate, tape_rate}
use Rattle.automation.specs.Automation.{block_of, daylight_of, reached, segment, sweep_of, points_of, merged_with, merged, sweep_at, swept, corner_between, drive_between, tone_at, tuning_at}
use Rattle.oscillators.specs.Oscillators.{phase_of, swell_of, warp_delay}
use Rattle.tape.specs.Tape.{saturated, lift_at, equalizer_step, ducked_step, tape_step, fresh_tone, fresh_equalizer, fresh_tape_machine, equalizer_at_rest, tape_at_rest}
use Rattle.allpass.specs.Allpass.{stored_of, lattice_from, lattice_step, stretched_step, delay_step}
use Rattle.plate.specs.Machine.{input_step, half_step, leaving, taps_of, fed_of, turn_of, stretch_of, tank_step, returned_of, plate_step, fresh_half, fresh_plate, input_at_rest, half_at_rest, at_rest}
use Rattle.master.specs.Ceiling.{larger_of, peak_of, need_for, need_of, least, least_of, held_of, released_of, last_of, total, count_of, late_of, taken, gain_of, multiplied, multiplied_step, clamped, delivered, ceiling_step}
use Rattle.master.specs.Kept.{frames_in, frames_out}
use Rattle.strip.specs.Machine.{fresh_lane, fresh_bus, fresh, lane_step, mixed_step, bus_step, stepped, lane_latched, latched, lane_resting, bus_resting, resting, fed, fed_all, delivers, heard_from}
use Rattle.strip.specs.Promise.{refusal, events_of, feeds, accepted, says}
use Rattle.ranges.specs.Ranges.{in_range, all_in_range}
use Rattle.strip.specs.Refusals.{ok_unit, ok_outputs, ok_end, ok_samples, ok_controls}
use Rattle.strip.specs.Calls.{first_of}
use Rattle.played.proofs.Apart.{rolled, lane_fed, told, lane_takes, lane_call, bus_fed, bus_call}

unfoldable pub computed : Unit {0}
unfolding narrowed floored two_to step_of identity through down SIN COS EXP LN POW TANH SINH flushed gain_of_db pole_of one_pole_at one_pole_step tilt_step lift_of one_pole_at_rest normalized angle_of lpf hpf bpf lowpass_at highpass_at bandpass_at butter_q lowpass_retuned section_at section_step retuned lowpass_step section_at_rest lowpass_at_rest power_from ring_of tap_of all_zero held shaped ramp_at toward sidechain_gain marks_at times_gains duck_step limit_of ceiling_rate rounded ceil_of samples_at scaled predelay_of excursion_of reach_of input_rate left_taps right_taps half_rate left_rate right_rate trip_of decay_of diffusion_of damping_of highpass_of plate_rate rate_of warp_of wow_of flutter_of duck_rate tape_rate block_of daylight_of reached segment sweep_of points_of merged_with merged sweep_at swept corner_between drive_between tone_at tuning_at phase_of swell_of warp_delay saturated lift_at equalizer_step ducked_step tape_step fresh_tone fresh_equalizer fresh_tape_machine equalizer_at_rest tape_at_rest stored_of lattice_from lattice_step stretched_step delay_step input_step half_step leaving taps_of fed_of turn_of stretch_of tank_step returned_of plate_step fresh_half fresh_plate input_at_rest half_at_rest at_rest size_of larger_of peak_of need_for need_of least least_of held_of released_of last_of total count_of late_of taken gain_of multiplied multiplied_step clamped delivered ceiling_step frames_in frames_out fresh_lane fresh_bus fresh lane_step mixed_step bus_step stepped lane_latched latched lane_resting bus_resting resting fed fed_all delivers heard_from refusal events_of feeds accepted says in_range all_in_range ok_unit ok_outputs ok_end ok_samples ok_controls first_of add sub mul div neg le lt eq is_nan of_int of_bits to_bits to_signed to_unsigned round rolled lane_fed told lane_takes lane_call bus_fed bus_call
computed = tt
