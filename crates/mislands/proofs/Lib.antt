-- SPDX-License-Identifier: Apache-2.0
mod IslandWords
mod NamesRead
mod Lines
mod Taken
mod Once
