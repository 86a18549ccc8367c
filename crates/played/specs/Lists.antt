-- Lists of calls and of samples, and what the Rust gave for them. Made by harness/vectors: no line here was written by hand.
use Rattle.std.specs.Prelude.{true, false, List, [], ◌∷◌, ◌++◌, None, Some}
use Rattle.automation.specs.declared.Tone.TheVariants.{Fixed, Graded}
use Rattle.strip.specs.Machine.{Event, latch}
use Rattle.strip.specs.Promise.{Call, run, move, ask, ran, moved, rests, declined}
use Rattle.played.specs.Played.{Played, Sounded, double, single, room, counts, sampled}

abbrev pub everything0 : List Call
everything0 = ask ∷ run (double 0xbfec000000000000 ∷ double 0xc00f000000000000 ∷ double 0x4009800000000000 ∷ []) true (room 6) (counts 3) ∷ move (record { daylight = single 0x3f800000; grading = 40; rain = single 0x0; darkening = 30 }) ∷ run (double 0x3ff0000000000000 ∷ double 0x4090020000000000 ∷ []) true (room 4) (counts 2) ∷ run (double 0x3fe6000000000000 ∷ double 0xbfd8000000000000 ∷ double 0xc000000000000000 ∷ double 0xbfd0000000000000 ∷ double 0xbff6000000000000 ∷ double 0xc007800000000000 ∷ double 0xbfe6000000000000 ∷ double 0xc009800000000000 ∷ double 0x400d800000000000 ∷ double 0x400b000000000000 ∷ double 0x4008000000000000 ∷ double 0x4007800000000000 ∷ double 0x3fd8000000000000 ∷ []) false (room 26) (counts 13) ∷ []

abbrev pub everything1 : List Call
everything1 = run (double 0x4008800000000000 ∷ double 0xbff6000000000000 ∷ double 0x3fee000000000000 ∷ double 0x4000800000000000 ∷ double 0x3ff6000000000000 ∷ double 0xc009000000000000 ∷ double 0xbff4000000000000 ∷ []) false (room 14) (counts 7) ∷ move (record { daylight = single 0x3fc00000; grading = 3; rain = single 0x0; darkening = 2 }) ∷ ask ∷ run (double 0xbfe4000000000000 ∷ double 0x400a000000000000 ∷ double 0x400d800000000000 ∷ double 0xc00b000000000000 ∷ double 0xbfe8000000000000 ∷ double 0x4009800000000000 ∷ double 0xbfe6000000000000 ∷ double 0x400e000000000000 ∷ double 0xc00c800000000000 ∷ []) true (room 18) (counts 9) ∷ []

abbrev pub everything2 : List Call
everything2 = run (double 0xbfee000000000000 ∷ double 0xbffc000000000000 ∷ double 0x3fdc000000000000 ∷ double 0x3fec000000000000 ∷ double 0xc00b000000000000 ∷ double 0x400c000000000000 ∷ double 0xc002800000000000 ∷ double 0xc004800000000000 ∷ double 0x3ff2000000000000 ∷ double 0x400b000000000000 ∷ double 0xbfee000000000000 ∷ double 0xc00c800000000000 ∷ double 0xc00d800000000000 ∷ double 0xbff7000000000000 ∷ double 0x3fd0000000000000 ∷ double 0x4005000000000000 ∷ []) true (room 32) (counts 16) ∷ []

abbrev pub everything3 : List Call
everything3 = move (record { daylight = single 0x3f000000; grading = 10; rain = single 0x3f400000; darkening = 20 }) ∷ run (double 0x4006000000000000 ∷ double 0x3ff2000000000000 ∷ double 0x3ff6000000000000 ∷ double 0xbff2000000000000 ∷ double 0xc00c000000000000 ∷ []) true (room 10) (counts 5) ∷ run ([]) false (room 0) (counts 0) ∷ run (double 0xc000000000000000 ∷ double 0x3fe2000000000000 ∷ double 0xc002000000000000 ∷ double 0x8000000000000000 ∷ double 0xbff5000000000000 ∷ double 0x3fe2000000000000 ∷ double 0x3fee000000000000 ∷ double 0xbff3000000000000 ∷ double 0xbff1000000000000 ∷ double 0x4008000000000000 ∷ double 0xbfea000000000000 ∷ []) false (room 22) (counts 11) ∷ ask ∷ []

-- graded, swelling, swept, darkened, ducked; latches, rests and declined calls among the runs
abbrev pub everything : Played
everything = record {
  rate = 240;
  setup = record { tape = record { tone = Graded (single 0x43960000) (single 0x44898000) (single 0x3fa00000) (single 0x40400000); pad = Some (record { hz = single 0x40f00000; depth = single 0x3f000000 }); darkened = true; input = double 0x4010000000000000; output = double 0x4030000000000000; ducked = true }; daylight = single 0x3e800000; rain = single 0x3f000000; send = double 0x3fe8000000000000 };
  lists = record { positions = 1 ∷ 1 ∷ 40 ∷ 40 ∷ 40 ∷ 60 ∷ 60 ∷ []; values = double 0x3fe8000000000000 ∷ double 0x3ff0000000000000 ∷ double 0x3fe0000000000000 ∷ double 0x3fd0000000000000 ∷ double 0x3fe4000000000000 ∷ double 0x3fee000000000000 ∷ double 0x3fec000000000000 ∷ []; kicks = 1 ∷ 2 ∷ 20 ∷ 33 ∷ [] };
  calls = everything0 ++ everything1 ++ everything2 ++ everything3;
  answers = rests true ∷ ran (single 0x0 ∷ single 0x0 ∷ single 0xbd52b781 ∷ single 0xbd52b781 ∷ single 0xbebd05d5 ∷ single 0xbebd05d5 ∷ []) (2199023255552 ∷ 2199023255552 ∷ 2090768391436 ∷ []) ∷ moved ∷ declined 7 ∷ ran (single 0xbf62a01c ∷ single 0xbf62a01c ∷ single 0xbf642905 ∷ single 0xbf642905 ∷ single 0xbf542ed6 ∷ single 0xbf542ed6 ∷ single 0xbf5a3749 ∷ single 0xbf5a3749 ∷ single 0xbf1d2329 ∷ single 0xbf1d2329 ∷ single 0xbe100117 ∷ single 0xbe0f0a5f ∷ single 0x3ee87d21 ∷ single 0x3eea12b7 ∷ single 0x3f53b480 ∷ single 0x3f5229ba ∷ single 0x3f642905 ∷ single 0x3f5fa920 ∷ single 0x3f2b607b ∷ single 0x3f318cfb ∷ single 0x3e380562 ∷ single 0x3e4e1260 ∷ single 0xbed2074d ∷ single 0xbedae685 ∷ single 0xbf50556f ∷ single 0xbf55430a ∷ []) (1969177410475 ∷ 1955841293630 ∷ 1955841293630 ∷ 1955841293630 ∷ 1955841293630 ∷ 1984496555842 ∷ 1929669158902 ∷ 1713037539906 ∷ 1579888580062 ∷ 1579888580062 ∷ 1579888580062 ∷ 1561161612147 ∷ 1441717018608 ∷ []) ∷ ran (single 0xbf63db13 ∷ single 0xbf642905 ∷ single 0xbf3c8160 ∷ single 0xbf308a0a ∷ single 0xbe698053 ∷ single 0xbe8a677f ∷ single 0x3ecb44d1 ∷ single 0x3eba1e53 ∷ single 0x3f4bdf19 ∷ single 0x3f52ea31 ∷ single 0x3f6270ea ∷ single 0x3f642905 ∷ single 0x3f374a84 ∷ single 0x3f36e178 ∷ []) (1340999392984 ∷ 1340999392984 ∷ 1340999392984 ∷ 1331391384919 ∷ 1221876766231 ∷ 1121970155608 ∷ 1121970155608 ∷ []) ∷ declined 8 ∷ rests false ∷ ran (single 0x3e7a3c49 ∷ single 0x3e78771a ∷ single 0xbec8246a ∷ single 0xbeb7c9ac ∷ single 0xbf5252f2 ∷ single 0xbf4a22a9 ∷ single 0xbf5d079e ∷ single 0xbf642905 ∷ single 0xbf2a2b90 ∷ single 0xbf330a2a ∷ single 0xbe5e7478 ∷ single 0xbe5f700e ∷ single 0x3eb8ca45 ∷ single 0x3eb3a514 ∷ single 0x3f457dca ∷ single 0x3f450d23 ∷ single 0x3f642905 ∷ single 0x3f5eb26e ∷ []) (1121970155608 ∷ 1121970155608 ∷ 1036995211705 ∷ 952020267802 ∷ 952020267802 ∷ 952020267802 ∷ 952020267802 ∷ 891423726045 ∷ 830827184288 ∷ []) ∷ ran (single 0x3f30f938 ∷ single 0x3f351d3c ∷ single 0x3e5a44e1 ∷ single 0x3e65ff88 ∷ single 0xbed56c13 ∷ single 0xbec71224 ∷ single 0xbf4ca7f1 ∷ single 0xbf3e998e ∷ single 0xbf3e01f2 ∷ single 0xbf3e6980 ∷ single 0xbf50ed91 ∷ single 0xbf5a318c ∷ single 0xbf464f16 ∷ single 0xbf4965a8 ∷ single 0xbf1903bf ∷ single 0xbf1cdda4 ∷ single 0xbea024b8 ∷ single 0xbec189a4 ∷ single 0xbdce243b ∷ single 0xbe0451e9 ∷ single 0x3dc7f208 ∷ single 0x3dd1d9d0 ∷ single 0x3ea764be ∷ single 0x3eb5aad1 ∷ single 0x3f0cf5e4 ∷ single 0x3f1926df ∷ single 0x3f463b4e ∷ single 0x3f4a7191 ∷ single 0x3f5c5eb7 ∷ single 0x3f607cad ∷ single 0x3f58b35a ∷ single 0x3f642905 ∷ []) (830827184288 ∷ 830827184288 ∷ 830827184288 ∷ 842999731670 ∷ 867701509298 ∷ 893127104259 ∷ 919297726021 ∷ 933247776761 ∷ 933923570454 ∷ 947606595188 ∷ 975373587885 ∷ 1003954215573 ∷ 1033372319577 ∷ 982929669034 ∷ 902793403565 ∷ 888021232918 ∷ []) ∷ moved ∷ ran (single 0x3f3b0007 ∷ single 0x3f494f35 ∷ single 0x3f0a5c6d ∷ single 0x3f05041f ∷ single 0x3eaa18d6 ∷ single 0x3e691657 ∷ single 0x3d5ea0ec ∷ single 0x3d38fae2 ∷ single 0xbdea2a91 ∷ single 0xbe186668 ∷ []) (888021232918 ∷ 888021232918 ∷ 888021232918 ∷ 901031737074 ∷ 927433982257 ∷ []) ∷ ran ([]) ([]) ∷ ran (single 0xbe0c3107 ∷ single 0xbe506531 ∷ single 0xbd4301b4 ∷ single 0xbd668901 ∷ single 0x3e658252 ∷ single 0x3e85bdbc ∷ single 0x3f147bb6 ∷ single 0x3f2b8d43 ∷ single 0x3f485a2e ∷ single 0x3f58c0bd ∷ single 0x3f606864 ∷ single 0x3f642905 ∷ single 0x3f57936b ∷ single 0x3f5eaa0b ∷ single 0x3f2881a8 ∷ single 0x3f2c78e4 ∷ single 0x3ede5db2 ∷ single 0x3ec60fc8 ∷ single 0x3e810daa ∷ single 0x3e189ac6 ∷ single 0x3d930804 ∷ single 0xbcf32c2b ∷ []) (954609872276 ∷ 982582076656 ∷ 1011373929188 ∷ 939375626848 ∷ 810137342162 ∷ 767501156960 ∷ 767501156960 ∷ 767501156960 ∷ 767501156960 ∷ 776973228208 ∷ 797967602592 ∷ []) ∷ rests false ∷ [];
}

abbrev pub plain0 : List Call
plain0 = run (double 0xbfd4000000000000 ∷ double 0xbff2000000000000 ∷ double 0x4003000000000000 ∷ double 0x4002000000000000 ∷ double 0x400f000000000000 ∷ []) true (room 10) (counts 5) ∷ run ([]) false (room 0) (counts 0) ∷ run (double 0x400d000000000000 ∷ double 0xbff1000000000000 ∷ double 0xc00e800000000000 ∷ double 0x3fc8000000000000 ∷ double 0xbfc8000000000000 ∷ double 0x3ff4000000000000 ∷ double 0x400c000000000000 ∷ []) false (room 14) (counts 7) ∷ []

-- a fixed tone and nothing else
abbrev pub plain : Played
plain = record {
  rate = 240;
  setup = record { tape = record { tone = Fixed (single 0x42700000) (double 0x4004000000000000); pad = None; darkened = false; input = double 0x3ff8000000000000; output = double 0x4010000000000000; ducked = false }; daylight = single 0x3e800000; rain = single 0x3f000000; send = double 0x3fe8000000000000 };
  lists = record { positions = []; values = []; kicks = [] };
  calls = plain0;
  answers = ran (single 0x0 ∷ single 0x0 ∷ single 0xba96cbeb ∷ single 0xba96cbeb ∷ single 0xbc78aa8c ∷ single 0xbc78aa8c ∷ single 0xbdab287c ∷ single 0xbdab287c ∷ single 0xbe833c7f ∷ single 0xbe833c7f ∷ []) (2199023255552 ∷ 2199023255552 ∷ 2199023255552 ∷ 2199023255552 ∷ 2199023255552 ∷ []) ∷ ran ([]) ([]) ∷ ran (single 0xbefcd64a ∷ single 0xbefcd64a ∷ single 0xbf1e3362 ∷ single 0xbf1e3362 ∷ single 0xbeda647d ∷ single 0xbeda647d ∷ single 0x3e1779a9 ∷ single 0x3e177f56 ∷ single 0x3f2f67e3 ∷ single 0x3f2f70fa ∷ single 0x3f4be35d ∷ single 0x3f4bf187 ∷ single 0x3f642905 ∷ single 0x3f642064 ∷ []) (2199023255552 ∷ 2199023255552 ∷ 2199023255552 ∷ 2041614981696 ∷ 1448840175813 ∷ 905904281438 ∷ 798334919090 ∷ []) ∷ [];
}

abbrev pub faint0 : List Call
faint0 = run (double 0xbc2a000000000000 ∷ double 0x3c4f000000000000 ∷ double 0xbc31000000000000 ∷ double 0xbc34000000000000 ∷ double 0x3c18000000000000 ∷ double 0x3c2e000000000000 ∷ double 0xbc42800000000000 ∷ double 0x3c31000000000000 ∷ double 0x3c2e000000000000 ∷ double 0xbc45000000000000 ∷ double 0x3c4a800000000000 ∷ double 0x3c31000000000000 ∷ []) false (room 24) (counts 12) ∷ ask ∷ []

-- the same, so faint that the lane's sections come to the flush floor
abbrev pub faint : Played
faint = record {
  rate = 240;
  setup = record { tape = record { tone = Fixed (single 0x42700000) (double 0x4004000000000000); pad = None; darkened = false; input = double 0x3ff8000000000000; output = double 0x4010000000000000; ducked = false }; daylight = single 0x3e800000; rain = single 0x3f000000; send = double 0x3fe8000000000000 };
  lists = record { positions = []; values = []; kicks = [] };
  calls = faint0;
  answers = ran (single 0x0 ∷ single 0x0 ∷ single 0x0 ∷ single 0x0 ∷ single 0x0 ∷ single 0x0 ∷ single 0x0 ∷ single 0x0 ∷ single 0x0 ∷ single 0x0 ∷ single 0x21451e64 ∷ single 0x21451e64 ∷ single 0x221186bf ∷ single 0x221186bf ∷ single 0x2278a9e4 ∷ single 0x2278a9e4 ∷ single 0x22968bc4 ∷ single 0x22968bc4 ∷ single 0x2289cb84 ∷ single 0x2289cb84 ∷ single 0x223af24f ∷ single 0x223af24f ∷ single 0x218740e7 ∷ single 0x218740e7 ∷ []) (2199023255552 ∷ 2199023255552 ∷ 2199023255552 ∷ 2199023255552 ∷ 2199023255552 ∷ 2199023255552 ∷ 2199023255552 ∷ 2199023255552 ∷ 2199023255552 ∷ 2199023255552 ∷ 2199023255552 ∷ 2199023255552 ∷ []) ∷ rests false ∷ [];
}

abbrev pub cd0 : List Event
cd0 = sampled true (double 0xc002000000000000 ∷ double 0xbff2000000000000 ∷ double 0x3fd0000000000000 ∷ double 0x3ffb000000000000 ∷ double 0x3ff0000000000000 ∷ double 0xbff8000000000000 ∷ []) ++ (latch (record { daylight = single 0x3f800000; grading = 40; rain = single 0x0; darkening = 30 }) ∷ []) ++ sampled false (double 0x4001000000000000 ∷ double 0xbff6000000000000 ∷ double 0xc00f000000000000 ∷ double 0xc006000000000000 ∷ [])

abbrev pub cd1 : List Event
cd1 = sampled true (double 0x3ff2000000000000 ∷ double 0xbffa000000000000 ∷ double 0x4005800000000000 ∷ double 0xc000000000000000 ∷ double 0x400d000000000000 ∷ double 0xc00b800000000000 ∷ double 0xbfdc000000000000 ∷ double 0x400d800000000000 ∷ double 0x3ff9000000000000 ∷ double 0x3fe2000000000000 ∷ [])

abbrev pub cd2 : List Event
cd2 = sampled false (double 0xc00a000000000000 ∷ double 0x4009000000000000 ∷ double 0x4010000000000000 ∷ double 0x400c800000000000 ∷ []) ++ (latch (record { daylight = single 0x3f000000; grading = 10; rain = single 0x3f400000; darkening = 20 }) ∷ []) ++ sampled true (double 0x4003000000000000 ∷ double 0xc00c800000000000 ∷ double 0xc007800000000000 ∷ double 0xbff6000000000000 ∷ double 0x400d800000000000 ∷ double 0x3ffb000000000000 ∷ [])

abbrev pub cd3 : List Event
cd3 = sampled false (double 0x3ff3000000000000 ∷ double 0x4005000000000000 ∷ double 0x4000000000000000 ∷ double 0x400e800000000000 ∷ double 0x3ff5000000000000 ∷ double 0xc002800000000000 ∷ double 0x3fc0000000000000 ∷ double 0x3ff2000000000000 ∷ double 0x400c000000000000 ∷ double 0x400d000000000000 ∷ [])

-- the part's own rate, everything that a setup can have
abbrev pub cd : Sounded
cd = record {
  rate = 44100;
  setup = record { tape = record { tone = Graded (single 0x44610000) (single 0x45bb8000) (single 0x3fa00000) (single 0x40400000); pad = Some (record { hz = single 0x40f00000; depth = single 0x3f000000 }); darkened = true; input = double 0x3ff8000000000000; output = double 0x3ff0000000000000; ducked = true }; daylight = single 0x3e800000; rain = single 0x3f000000; send = double 0x3fe8000000000000 };
  lists = record { positions = 3 ∷ 3 ∷ 20 ∷ 20 ∷ 20 ∷ 45 ∷ 45 ∷ []; values = double 0x3fe8000000000000 ∷ double 0x3ff0000000000000 ∷ double 0x3fe0000000000000 ∷ double 0x3fd0000000000000 ∷ double 0x3fe4000000000000 ∷ double 0x3fee000000000000 ∷ double 0x3fec000000000000 ∷ []; kicks = 4 ∷ 9 ∷ 30 ∷ [] };
  events = cd0 ++ cd1 ++ cd2 ++ cd3;
  samples = double 0x0 ∷ double 0x0 ∷ double 0x0 ∷ double 0x0 ∷ double 0x0 ∷ double 0x0 ∷ double 0x0 ∷ double 0x0 ∷ double 0x0 ∷ double 0x0 ∷ double 0x0 ∷ double 0x0 ∷ double 0x0 ∷ double 0x0 ∷ double 0x0 ∷ double 0x0 ∷ double 0x0 ∷ double 0x0 ∷ double 0x0 ∷ double 0x0 ∷ double 0x0 ∷ double 0x0 ∷ double 0x0 ∷ double 0x0 ∷ double 0x0 ∷ double 0xbee1e9994b08b662 ∷ double 0xbf2024d88c5e631e ∷ double 0xbf4c25cc28a64e9d ∷ double 0xbf6f483ecd721d30 ∷ double 0xbf891582462ad756 ∷ double 0xbf9f5b2b93d25242 ∷ double 0xbfb01fe7b90ee8af ∷ double 0xbfbc5143c018d3b0 ∷ double 0xbfc5cb86df74688b ∷ double 0xbfce19a3b124ba45 ∷ double 0xbfd31822e607e946 ∷ double 0xbfd6c8234ac18775 ∷ double 0xbfda212fd24870d5 ∷ double 0xbfdd5d2e2af7f27c ∷ double 0xbfe06252709e5443 ∷ [];
}
